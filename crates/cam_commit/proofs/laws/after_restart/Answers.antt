use Rattle.cam_commit.proofs.Recovering.{recovers_families}
use Rattle.cam_commit.proofs.laws.after_restart.Goals as goal

pub returns : goal.returns
returns c = recovers_families
