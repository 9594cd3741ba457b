use Rattle.cam_commit.proofs.StepKinds.{steps_are_of_kind}
use Rattle.cam_commit.proofs.laws.kinds_of_steps.Goals as goal

pub returns : goal.returns
returns c = steps_are_of_kind
