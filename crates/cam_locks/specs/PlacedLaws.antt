-- The order of places is total, and it ties what is equal.
use Rattle.std.specs.Prelude.{◌≡◌}
use Rattle.std.specs.Cmp.{IsTotalOrder, then_total, on_total, nat_cmp_total, both_tied, unsigned_ties}
use Rattle.std.specs.Ordering.{nat_cmp, is_eq}
use Rattle.cam_names.specs.Names.{name_cmp}
use Rattle.cam_names.proofs.Names.{name_ties}
use Rattle.cam_names.proofs.Order.{name_total}
use Rattle.cam_locks.specs.declared.placed.Placed.{Placed}
use Rattle.cam_locks.specs.Placed.{placed_eq, placed_cmp}

-- the order of places is total
pub placed_total : IsTotalOrder placed_cmp
placed_total =
    then_total (on_total (λ p. p.name) name_total) (on_total (λ p. p.index) nat_cmp_total)

-- places are equal where the order does not part them
pub placed_ties : (p q : Placed) → placed_eq p q ≡ is_eq (placed_cmp p q)
placed_ties p q =
    both_tied _ _ (name_cmp p.name q.name) (nat_cmp p.index q.index) (name_ties p.name q.name)
    (unsigned_ties p.index q.index)
