-- What is kept of what was held: each index once, and below the next one.
use Rattle.std.proofs.Common.{◌≡◌, ℕ, ◌+◌, ◌≤◌, ◌<◌, eqb, max, Bool, true, false, cond, List, [], ◌∷◌, ◌++◌, map, refl, sym, subst, arith}
use Rattle.std.proofs.Math.Logic.{inl, inr}
use Rattle.std.specs.Prelude.{flat_map}
use Rattle.cam_names.specs.declared.name.Name.{Name}
use Rattle.cam_type.specs.declared.ObjectDecl.{ObjectDecl}
use Rattle.cam_type.specs.declared.Held.{Held}
use Rattle.cam_type.specs.declared.HeldOp.{HeldOp}
use Rattle.cam_know.specs.Knowledge.{Knowledge}
use Rattle.cam_know.specs.Known.{knows_abort}
use Rattle.cam_locks.specs.declared.LiveOp.{LiveOp}
use Rattle.cam_locks.specs.Site.{IndicesRise}
use Rattle.cam_locks.specs.Holding.{has_op}
use Rattle.cam_locks.specs.Restored.{of_family, ops_of, in_order, next_of, all_held, has_index, EachOnce, MayBeHeld}
use Rattle.cam_locks.proofs.Bools.{or_parts, or_false}
use Rattle.cam_locks.proofs.SortedOperations.{AllBelow, in_order_rises}

-- what is absent of the held operations is absent of those that are kept
absent_map : (f : Name) (hs gs : List HeldOp) (os : List LiveOp) (i : ℕ) → (has_index gs i ≡ false → has_op os i ≡ false)
    → has_index (hs ++ gs) i ≡ false → has_op (map (of_family f) hs ++ os) i ≡ false
absent_map f [] gs os i rest h = rest h
absent_map f (g ∷ hs) gs os i rest h =
    let parts = or_parts (eqb g.index i) (has_index (hs ++ gs) i) h in
    or_false (eqb g.index i) (has_op (map (of_family f) hs ++ os) i) parts.0 (absent_map f hs gs os i rest parts.1)

absent_back : (hs gs : List HeldOp) (i : ℕ) → has_index (hs ++ gs) i ≡ false → has_index gs i ≡ false
absent_back [] gs i h = h
absent_back (g ∷ hs) gs i h = absent_back hs gs i (or_parts (eqb g.index i) (has_index (hs ++ gs) i) h).1

abbrev kept : Knowledge → List Held → List LiveOp
kept know held = flat_map (ops_of know) held

absent_kept : (know : Knowledge) (held : List Held) (i : ℕ) → has_index (all_held held) i ≡ false → has_op (kept know held) i ≡ false
absent_kept know [] i h = refl
absent_kept know (f ∷ held) i h = by_test (knows_abort know f.family) (absent_kept know held i)
  where
    by_test : (b : Bool) → (has_index (all_held held) i ≡ false → has_op (kept know held) i ≡ false) → has_op (cond b [] (map (of_family f.family) f.ops) ++ kept know held) i ≡ false
    by_test true rest = rest (absent_back f.ops (all_held held) i h)
    by_test false rest = absent_map f.family f.ops (all_held held) (kept know held) i rest h

-- what may be held may be held without what stands before it
pub may_back : (objects : List ObjectDecl) (node : ℕ) (hs gs : List HeldOp) → MayBeHeld objects node (hs ++ gs) → MayBeHeld objects node gs
may_back objects node [] gs may = may
may_back objects node (h ∷ hs) gs may = may_back objects node hs gs may.3

once_map : (objects : List ObjectDecl) (node : ℕ) (f : Name) (hs gs : List HeldOp) (os : List LiveOp) → ((i : ℕ) → has_index gs i ≡ false → has_op os i ≡ false)
    → EachOnce os → MayBeHeld objects node (hs ++ gs) → EachOnce (map (of_family f) hs ++ os)
once_map objects node f [] gs os rest once may = once
once_map objects node f (h ∷ hs) gs os rest once may = (absent_map f hs gs os h.index (rest h.index) may.2, once_map objects node f hs gs os rest once may.3)

-- Each index of what is kept of held families stands once.
pub once_kept : (objects : List ObjectDecl) (node : ℕ) (know : Knowledge) (held : List Held) → MayBeHeld objects node (all_held held) → EachOnce (kept know held)
once_kept objects node know [] may = tt
once_kept objects node know (f ∷ held) may = by_test (knows_abort know f.family) (once_kept objects node know held (may_back objects node f.ops (all_held held) may))
  where
    by_test : (b : Bool) → EachOnce (kept know held) → EachOnce (cond b [] (map (of_family f.family) f.ops) ++ kept know held)
    by_test true rest = rest
    by_test false rest = once_map objects node f.family f.ops (all_held held) (kept know held) (absent_kept know held) rest may

-- all that is kept stands below the next index
abbrev AllUnder : List HeldOp → ℕ → Type 0
AllUnder [] next = Unit {0}
AllUnder (h ∷ hs) next = (h.index < next) × AllUnder hs next

under_more : (hs : List HeldOp) (next later : ℕ) → next ≤ later → AllUnder hs next → AllUnder hs later
under_more [] next later le under = tt
under_more (h ∷ hs) next later le under = let lt : h.index < next = under.0 in (omega arith, under_more hs next later le under.1)

under_next : (hs : List HeldOp) → AllUnder hs (next_of hs)
under_next [] = tt
under_next (h ∷ hs) = (omega arith, under_more hs (next_of hs) (max (h.index + 1) (next_of hs)) (omega arith) (under_next hs))

below_map : (f : Name) (hs gs : List HeldOp) (os : List LiveOp) (next : ℕ) → (AllUnder gs next → AllBelow os next) → AllUnder (hs ++ gs) next
    → AllBelow (map (of_family f) hs ++ os) next
below_map f [] gs os next rest under = rest under
below_map f (h ∷ hs) gs os next rest under = λ o k. elim k [
  | inl e ↦ subst (λ (p : LiveOp). p.index < next) (sym e) under.0
  | inr j ↦ below_map f hs gs os next rest under.1 o j
]

under_back : (hs gs : List HeldOp) (next : ℕ) → AllUnder (hs ++ gs) next → AllUnder gs next
under_back [] gs next under = under
under_back (h ∷ hs) gs next under = under_back hs gs next under.1

below_kept : (know : Knowledge) (held : List Held) (next : ℕ) → AllUnder (all_held held) next → AllBelow (kept know held) next
below_kept know [] next under = λ o h. absurd h
below_kept know (f ∷ held) next under = by_test (knows_abort know f.family) (below_kept know held next)
  where
    by_test : (b : Bool) → (AllUnder (all_held held) next → AllBelow (kept know held) next) → AllBelow (cond b [] (map (of_family f.family) f.ops) ++ kept know held) next
    by_test true rest = rest (under_back f.ops (all_held held) next under)
    by_test false rest = below_map f.family f.ops (all_held held) (kept know held) next rest under

-- The indices of what is restored rise up to the next one.
pub restored_rise : (objects : List ObjectDecl) (node : ℕ) (know : Knowledge) (held : List Held) → MayBeHeld objects node (all_held held)
    → IndicesRise 0 (in_order (kept know held)) (next_of (all_held held))
restored_rise objects node know held may =
    in_order_rises (kept know held) (next_of (all_held held)) (once_kept objects node know held may) (below_kept know held (next_of (all_held held)) (under_next (all_held held)))
