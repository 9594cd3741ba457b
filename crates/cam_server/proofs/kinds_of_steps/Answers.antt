use Rattle.cam_server.proofs.QuietRules.{others_are_quiet, calls_are_served}
use Rattle.cam_server.proofs.kinds_of_steps.Goals as goal

pub returns-clause-quiet : goal.returns-clause-quiet
returns-clause-quiet c = others_are_quiet

pub returns-clause-served : goal.returns-clause-served
returns-clause-served c = calls_are_served
