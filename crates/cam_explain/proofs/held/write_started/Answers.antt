use Rattle.cam_explain.proofs.Joined.{two}
use Rattle.cam_explain.proofs.held.write_started.Goals as goal

pub returns : goal.returns
returns c = two _ _ _ _ _ c.in_ok-say_home.ensures c.in_ok-write_query.ensures
