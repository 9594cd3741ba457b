use Rattle.std.proofs.Common.{◌++◌, take, arith}
use Rattle.cam_know.proofs.Noting.{index_begun, index_step, index_done}
use Rattle.cam_know.proofs.index.Index.note_all.Goals as goal

pub loop-outcome-init : goal.loop-outcome-init
loop-outcome-init c = (index_begun c.args.self.now, omega (arith, c.requires))

pub loop-outcome-preserved : goal.loop-outcome-preserved
loop-outcome-preserved c = (
  λ os h. index_step c.note.new.self c.args.outcomes.now c.loop-outcome.outcome-index c.outcome-item.result c.loop-outcome-test.true c.outcome-item.is os
      (c.note.ensures.value (os ++ take c.loop-outcome.outcome-index c.args.outcomes.now) (c.loop-outcome.invariant.0 os h)),
  omega (arith, c.loop-outcome.invariant.1, c.note.ensures.room),
)

pub returns : goal.returns
returns c = λ os h. index_done c.loop-outcome.self c.args.outcomes.now c.loop-outcome.outcome-index os c.loop-outcome-test.false (c.loop-outcome.invariant.0 os h)
