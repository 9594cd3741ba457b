use Rattle.std.proofs.Common.{ℕ, List, sym, subst, ◌∙◌, arith}
use Rattle.cam_locks.specs.declared.LiveOp.{LiveOp}
use Rattle.cam_locks.specs.Site.{IndicesRise}
use Rattle.cam_locks.proofs.Indices.{rise_at}
use Rattle.cam_locks.proofs.live.Live.copy.Goals as goal

pub loop-operation-init : goal.loop-operation-init
loop-operation-init c = (
  c.new-copy.ensures.ops,
  subst (λ (n : ℕ). IndicesRise n c.as_slice-operation-items.result.now c.args.self.now.next) (sym c.new-copy.ensures.next)
      (subst (λ (os : List LiveOp). IndicesRise 0 os c.args.self.now.next) (sym (c.as_slice-operation-items.ensures.value ∙ c.in_ok-all.ensures)) c.next-next.ensures.order),
)

pub push-requires-clause-range : goal.push-requires-clause-range
push-requires-clause-range c =
    let inv = c.loop-operation.invariant in
    let r = rise_at c.loop-operation.copy.next c.as_slice-operation-items.result.now c.loop-operation.operation-index c.args.self.now.next c.operation-item.result c.loop-operation-test.true c.operation-item.is inv.1 in
    let lt = r.1 in omega (arith, lt, c.next-next.ensures)
