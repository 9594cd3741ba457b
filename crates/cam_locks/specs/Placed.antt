-- The live operations by the names of their actions.
use Rattle.std.specs.Prelude.{◌≡◌, ◌+◌, ◌==◌, ◌&&◌, Bool, true, false, List, Option, Some, None}
use Rattle.std.specs.List.{list_any}
use Rattle.std.specs.Ordering.{nat_cmp, is_lt, on, then_cmp}
use Rattle.std.specs.BTreeSet.{BTreeSet, contains}
use Rattle.std.specs.declared.cmp.Ordering.{Ordering}
use Rattle.cam_names.specs.declared.name.Name.{Name}
use Rattle.cam_names.specs.Names.{name_eq, name_cmp}
use Rattle.cam_locks.specs.declared.LiveOp.{LiveOp}
use Rattle.cam_locks.specs.declared.placed.Placed.{Placed}
use Rattle.cam_locks.specs.Members.{In}
use Rattle.cam_locks.specs.Calls.{is_below}

abbrev pub placed_eq : Placed → Placed → Bool
placed_eq p q = name_eq p.name q.name && (p.index == q.index)

-- They are ordered by name, then by index.
abbrev pub placed_cmp : Placed → Placed → Ordering
placed_cmp = then_cmp (on (λ p. p.name) name_cmp) (on (λ p. p.index) nat_cmp)

abbrev pub is_before : Placed → Placed → Bool
is_before p q = is_lt (placed_cmp p q)

-- where an operation stands
abbrev pub placed_of : LiveOp → Placed
placed_of o = record { name = o.action; index = o.index }

-- the place right after it
abbrev pub behind : LiveOp → Placed
behind o = record { name = o.action; index = o.index + 1 }

-- whether an operation stands there
abbrev pub has_placed : List LiveOp → Placed → Bool
has_placed os p = list_any (λ o. placed_eq p (placed_of o)) os

-- the first of the set that is not before a place
abbrev pub IsFirstFrom : BTreeSet Placed → Placed → Option Placed → Type 0
IsFirstFrom set start None =
    (q : Placed) → contains placed_cmp set q ≡ true → is_before q start ≡ true
IsFirstFrom set start (Some p) =
    (contains placed_cmp set p ≡ true) × (is_before p start ≡ false)
    × ((q : Placed) → contains placed_cmp set q ≡ true → is_before q start ≡ false
    → is_before q p ≡ false)

-- the first operation of an action and of those below it that is not before a place
abbrev pub IsNextBelow : List LiveOp → Name → Placed → Option LiveOp → Type 0
IsNextBelow os n start None =
    (o : LiveOp) → In o os → is_below n o ≡ true → is_before (placed_of o) start ≡ true
IsNextBelow os n start (Some p) =
    In p os × (is_below n p ≡ true) × (is_before (placed_of p) start ≡ false)
    × ((o : LiveOp) → In o os → is_below n o ≡ true → is_before (placed_of o) start ≡ false
    → is_before (placed_of o) (placed_of p) ≡ false)
