-- One more step of a node in a run.
use Rattle.cam_histories.proofs.Stepping.{steps_lead_on, restarts_lead_on, letters_are_put, own_inputs_are_put}
use Rattle.cam_histories.proofs.steps.node_steps.Goals as goal

pub returns-clause-steps : goal.returns-clause-steps
returns-clause-steps c = steps_lead_on

pub returns-clause-restarts : goal.returns-clause-restarts
returns-clause-restarts c = restarts_lead_on

pub returns-clause-letters : goal.returns-clause-letters
returns-clause-letters c = letters_are_put

pub returns-clause-own : goal.returns-clause-own
returns-clause-own c = own_inputs_are_put
