use Rattle.std.proofs.Common.{sym, ◌∙◌}
use Rattle.cam_locks.proofs.Bools.{not_true, not_false}
use Rattle.cam_locks.proofs.HeldOperations.{may_further, may_at, index_further}
use Rattle.cam_locks.proofs.restorable.may_be_held.Goals as goal

pub returns-then-not-is_right : goal.returns-then-not-is_right
returns-then-not-is_right c = (
  λ h. cc,
  λ may. sym c.if-not-is_right.true ∙ c.is_right.ensures
      ∙ (may_at c.args.objects.now c.args.node c.args.ops.now c.loop-op.op-index _ c.loop-op-test.true may).0,
)

pub returns-then-not-branch : goal.returns-then-not-branch
returns-then-not-branch c = (
  λ h. cc,
  λ may.
      sym (may_at c.args.objects.now c.args.node c.args.ops.now c.loop-op.op-index _ c.loop-op-test.true may).1
      ∙ sym (c.loop-op.invariant.1 _) ∙ not_false _ (sym c.in_ok-insert.ensures.added ∙ c.if-not-branch.true),
)

pub loop-op-preserved : goal.loop-op-preserved
loop-op-preserved c = (
  may_further c.args.objects.now c.args.node c.args.ops.now c.loop-op.op-index _ c.loop-op-test.true c.loop-op.invariant.0
      (sym c.is_right.ensures ∙ c.if-not-is_right.false)
      (sym (c.loop-op.invariant.1 _) ∙ not_true _ (sym c.in_ok-insert.ensures.added ∙ c.if-not-branch.false)),
  λ i. index_further c.args.ops.now c.loop-op.op-index _ i _ _ c.loop-op-test.true (c.loop-op.invariant.1 i) (c.in_ok-insert.ensures.updates.0 i),
)
