use Rattle.cam_explain.proofs.Joined.{two}
use Rattle.cam_explain.proofs.open.write_open.Goals as goal

pub returns : goal.returns
returns c = two _ _ _ _ _ c.in_ok-write_own_wait.ensures c.in_ok-write_own_held.ensures
