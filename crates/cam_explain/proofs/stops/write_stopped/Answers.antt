use Rattle.cam_explain.proofs.Joined.{five}
use Rattle.cam_explain.proofs.stops.write_stopped.Goals as goal

pub returns : goal.returns
returns c =
    five _ _ _ _ _ _ _ _ _ _ _ c.in_ok-say_name.ensures c.in_ok-push_number.ensures c.in_ok-write_event.ensures c.in_ok-push_str.ensures.bytes
    c.in_ok-write_orphan.ensures
