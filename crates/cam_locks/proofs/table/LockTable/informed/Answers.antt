use Rattle.std.proofs.Common.{List, map, ℕ, ◌≤◌, ap, sym, subst, ◌∙◌, arith}
use Rattle.cam_type.specs.declared.ObjectDecl.{ObjectDecl}
use Rattle.cam_locks.specs.Site.{AreFit}
use Rattle.cam_locks.specs.Holding.{fresh}
use Rattle.cam_locks.proofs.Indices.{rise_none}
use Rattle.cam_locks.proofs.AllLocks.{all_fresh}
use Rattle.cam_locks.proofs.table.LockTable.informed.Goals as goal

pub invariant_of-result : goal.invariant_of-result
invariant_of-result c = (
  record {
    rising = rise_none c.new.result.ops c.new.result.next c.new.ensures.ops;
    range = subst (λ (n : ℕ). n ≤ 1000000000) (sym c.new.ensures.next) (omega arith);
    locks = all_fresh c.in_ok-copy_objects.field-0 c.in_ok-committed_names.field-0.names c.new.result.ops c.new.result.next c.in_ok-for_objects.field-0.items
        c.new.ensures.ops c.new.ensures.next
        (c.in_ok-for_objects.ensures ∙ ap (λ (ds : List ObjectDecl). map (λ d. fresh d.start) ds) (sym c.in_ok-copy_objects.ensures));
  },
  subst (AreFit c.in_ok-copy_objects.field-0 c.args.node) (sym c.new.ensures.ops) tt,
)
