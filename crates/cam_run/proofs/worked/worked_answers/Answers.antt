use Rattle.cam_run.proofs.WorkedAnswers.{are_worked}
use Rattle.cam_run.proofs.worked.worked_answers.Goals as goal

pub returns : goal.returns
returns c = are_worked
