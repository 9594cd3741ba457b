use Rattle.cam_explain.proofs.Joined.{three}
use Rattle.cam_explain.proofs.stops.write_one.Goals as goal

pub returns : goal.returns
returns c = λ whole stops.
    three _ _ _ _ _ _ _ c.in_ok-write_stopped.ensures c.in_ok-push_str.ensures.bytes
    (c.in_ok-write_chain.ensures c.args.reason.now whole stops)
