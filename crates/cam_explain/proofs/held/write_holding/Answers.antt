use Rattle.cam_explain.proofs.Joined.{four}
use Rattle.cam_explain.proofs.held.write_holding.Goals as goal

pub returns : goal.returns
returns c =
    four _ _ _ _ _ _ _ _ _ c.in_ok-push_str.ensures.bytes c.in_ok-write_objects.ensures c.in_ok-push_str-2.ensures.bytes c.in_ok-write_way_out.ensures
