-- Lines of a run.
use Rattle.cam_histories.proofs.ManyLines.{deliveries_stand, losses_stand, others_stand}
use Rattle.cam_histories.proofs.NextLetter.{nexts_are_letters, none_is_next}
use Rattle.cam_histories.proofs.steps.run_lines.Goals as goal

pub returns-clause-next : goal.returns-clause-next
returns-clause-next c = nexts_are_letters

pub returns-clause-none : goal.returns-clause-none
returns-clause-none c = none_is_next

pub returns-clause-delivery : goal.returns-clause-delivery
returns-clause-delivery c = deliveries_stand

pub returns-clause-loss : goal.returns-clause-loss
returns-clause-loss c = losses_stand

pub returns-clause-others : goal.returns-clause-others
returns-clause-others c = others_stand
