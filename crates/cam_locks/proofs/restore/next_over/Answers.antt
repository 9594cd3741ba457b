use Rattle.std.proofs.Common.{arith, max, ap, ◌∙◌}
use Rattle.cam_locks.proofs.RestoredLists.{in_range_at, next_further}
use Rattle.cam_locks.proofs.restore.next_over.Goals as goal

pub after-requires : goal.after-requires
after-requires c = in_range_at c.args.ops.now c.loop-op.op-index _ c.loop-op-test.true c.requires.ops

pub loop-op-preserved : goal.loop-op-preserved
loop-op-preserved c =
    let inv = c.loop-op.invariant in
    let bound = inv.1 in (
      next_further c.args.ops.now c.args.first c.loop-op.op-index c.loop-op.next c.max-next.result _ c.loop-op-test.true inv.0 (c.max-next.ensures ∙ ap (max c.loop-op.next) c.after.ensures.value),
      omega (arith, c.max-next.ensures, c.after.ensures, bound),
    )
