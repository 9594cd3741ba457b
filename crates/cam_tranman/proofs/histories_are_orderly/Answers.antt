use Rattle.cam_tranman.proofs.StepDeeds.{none_is_orderly, steps_stay_orderly, taken_stays_orderly}
use Rattle.cam_tranman.proofs.histories_are_orderly.Goals as goal

pub returns-clause-none : goal.returns-clause-none
returns-clause-none c = none_is_orderly

pub returns-clause-steps : goal.returns-clause-steps
returns-clause-steps c = steps_stay_orderly

pub returns-clause-taken : goal.returns-clause-taken
returns-clause-taken c = taken_stays_orderly
