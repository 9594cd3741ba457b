use Rattle.cam_node.proofs.LogEntries.{formatted_keeps, taken_is_the_same}
use Rattle.cam_node.proofs.EntryLaws.{entry_keeps, no_entry_keeps}
use Rattle.cam_node.proofs.OwnSteps.{steps_are_own}
use Rattle.cam_node.proofs.TakenSteps.{taken_may_be_logged}
use Rattle.cam_node.proofs.laws.logs_keep_histories.Goals as goal

pub returns-clause-formatted : goal.returns-clause-formatted
returns-clause-formatted c = formatted_keeps

pub returns-clause-entry : goal.returns-clause-entry
returns-clause-entry c = entry_keeps

pub returns-clause-none : goal.returns-clause-none
returns-clause-none c = no_entry_keeps

pub returns-clause-taken : goal.returns-clause-taken
returns-clause-taken c = taken_is_the_same

pub returns-clause-taken_may : goal.returns-clause-taken_may
returns-clause-taken_may c = taken_may_be_logged

pub returns-clause-own : goal.returns-clause-own
returns-clause-own c = steps_are_own
