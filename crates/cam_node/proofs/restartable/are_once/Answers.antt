-- One more family is new, or one stands twice.
use Rattle.std.proofs.Common.{sym, ◌∙◌}
use Rattle.std.specs.HashSet.{contains}
use Rattle.cam_names.specs.Names.{name_eq}
use Rattle.cam_commit.proofs.Recovering.{held_noted}
use Rattle.cam_node.proofs.HeldOnce.{once_further, once_at, not_false, not_true}
use Rattle.cam_node.proofs.restartable.are_once.Goals as goal

pub returns-then-not-branch : goal.returns-then-not-branch
returns-then-not-branch c = (
  λ h. cc,
  λ once.
      sym (once_at c.args.held.now c.loop-one.one-index c.one-item.result c.loop-one-test.true c.one-item.is once)
      ∙ sym (c.loop-one.invariant.1 _)
      ∙ not_false _ (sym c.in_ok-insert.ensures.added ∙ c.if-not-branch.true),
)

pub loop-one-preserved : goal.loop-one-preserved
loop-one-preserved c = (
  once_further c.args.held.now c.loop-one.one-index c.one-item.result c.loop-one-test.true c.one-item.is
      c.loop-one.invariant.0
      (sym (c.loop-one.invariant.1 _)
      ∙ not_true _ (sym c.in_ok-insert.ensures.added ∙ c.if-not-branch.false)),
  λ f.
      held_noted f c.args.held.now c.loop-one.one-index c.one-item.result
      (contains name_eq c.insert.new.self f) (contains name_eq c.loop-one.families f)
      c.loop-one-test.true c.one-item.is (c.in_ok-insert.ensures.updates.0 f)
      (c.loop-one.invariant.1 f),
)
