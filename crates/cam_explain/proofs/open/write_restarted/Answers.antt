use Rattle.cam_explain.proofs.Joined.{three}
use Rattle.cam_explain.proofs.open.write_restarted.Goals as goal

pub returns : goal.returns
returns c = three _ _ _ _ _ _ _ c.in_ok-say_home.ensures c.in_ok-write_decision.ensures c.in_ok-push_str.ensures.bytes
