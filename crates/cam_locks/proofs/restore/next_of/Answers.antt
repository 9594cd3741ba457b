use Rattle.std.proofs.Common.{ℕ, List, max, ap, ◌∙◌, sym, subst}
use Rattle.cam_type.specs.declared.HeldOp.{HeldOp}
use Rattle.cam_locks.specs.Restored.{InRange, next_of}
use Rattle.cam_locks.proofs.RestoredLists.{in_range_of, next_family}
use Rattle.cam_locks.proofs.restore.next_of.Goals as goal

pub next_over-next-requires-clause-ops : goal.next_over-next-requires-clause-ops
next_over-next-requires-clause-ops c =
    subst InRange (sym c.as_slice.ensures)
    (in_range_of c.args.held.now c.loop-family.family-index c.family-item.result c.loop-family-test.true c.family-item.is c.requires)

pub loop-family-preserved : goal.loop-family-preserved
loop-family-preserved c = (
  c.next_over-next.ensures.value ∙ ap (λ (hs : List HeldOp). max c.loop-family.next (next_of hs)) c.as_slice.ensures
      ∙ ap (λ (n : ℕ). max n (next_of c.family-item.result.ops)) c.loop-family.invariant.0
      ∙ sym (next_family c.args.held.now c.loop-family.family-index c.family-item.result c.loop-family-test.true c.family-item.is),
  c.next_over-next.ensures.range,
)
