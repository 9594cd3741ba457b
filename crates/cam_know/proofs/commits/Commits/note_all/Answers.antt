use Rattle.std.proofs.Common.{arith}
use Rattle.cam_know.specs.Commits.{has_commit}
use Rattle.cam_know.proofs.Places.{noted_more}
use Rattle.cam_know.proofs.commits.Commits.note_all.Goals as goal

pub loop-outcome-preserved : goal.loop-outcome-preserved
loop-outcome-preserved c = (
  λ q. noted_more q c.args.outcomes.now c.loop-outcome.outcome-index c.outcome-item.result
      (has_commit c.args.self.now q) (has_commit c.loop-outcome.self q) (has_commit c.note.new.self q)
      c.loop-outcome-test.true c.outcome-item.is (c.loop-outcome.invariant.0 q) (c.note.ensures.value q),
  omega (arith, c.loop-outcome.invariant.1, c.note.ensures.room),
)
