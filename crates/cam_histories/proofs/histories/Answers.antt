-- The histories of the nodes of a run.
use Rattle.cam_histories.proofs.Lawful.{histories_are_lawful, histories_go_through, histories_may_end}
use Rattle.cam_histories.proofs.histories.Goals as goal

pub returns-clause-lawful : goal.returns-clause-lawful
returns-clause-lawful c = histories_are_lawful

pub returns-clause-through : goal.returns-clause-through
returns-clause-through c = histories_go_through

pub returns-clause-ended : goal.returns-clause-ended
returns-clause-ended c = histories_may_end
