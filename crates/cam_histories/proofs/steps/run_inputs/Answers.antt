-- One more input of a run.
use Rattle.cam_histories.proofs.OneInput.{inputs_lead_on}
use Rattle.cam_histories.proofs.InputsStand.{inputs_stand}
use Rattle.cam_histories.proofs.steps.run_inputs.Goals as goal

pub returns-clause-lead : goal.returns-clause-lead
returns-clause-lead c = inputs_lead_on

pub returns-clause-stand : goal.returns-clause-stand
returns-clause-stand c = inputs_stand
