-- Where an index stands among slots in order, and what is live once a slot is dropped.
use Rattle.std.proofs.Common.{◌≡◌, ℕ, ◌+◌, ◌≤◌, ◌<◌, eqb, Bool, true, false, not, ◌&&◌, ◌||◌, cond, List, [], ◌∷◌, length, map, get_or, zero, suc, refl, sym, ap, ◌∙◌, arith}
use Rattle.std.proofs.Math.Logic.{inl, inr}
use Rattle.std.specs.Prelude.{filter}
use Rattle.std.proofs.lemmas.Bool.{and_parts}
use Rattle.std.proofs.lemmas.List.{get_or_default}
use Rattle.cam_locks.specs.declared.LiveOp.{LiveOp}
use Rattle.cam_locks.specs.declared.live.Slot.{Slot}
use Rattle.cam_locks.specs.Members.{In}
use Rattle.cam_locks.specs.Site.{IndicesRise}
use Rattle.cam_locks.specs.Holding.{has_op}
use Rattle.cam_locks.specs.Live.{all_of, live_of, is_live_at, AreInOrder, IsPlaceOf}
use Rattle.cam_locks.proofs.Bools.{and_no}
use Rattle.cam_locks.proofs.Indices.{rise_from_lower}

-- the slots, and of them those that are not dropped
abbrev pub kept : List Slot → List Slot
kept ss = filter (λ s. not s.is_dropped) ss

-- the operations of slots
abbrev pub ops : List Slot → List LiveOp
ops ss = map (λ s. s.operation) ss

-- the indices of what is live rise
pub slots_rise : (low : ℕ) (ss : List Slot) (next : ℕ) → IndicesRise low (all_of ss) next → IndicesRise low (live_of ss) next
slots_rise low [] next h = h
slots_rise low (s ∷ ss) next h = by_drop s.is_dropped (slots_rise (suc s.operation.index) ss next h.1)
  where
    by_drop : (d : Bool) → IndicesRise (suc s.operation.index) (live_of ss) next → IndicesRise low (ops (cond (not d) (s ∷ kept ss) (kept ss))) next
    by_drop true rest = let from : low ≤ s.operation.index = h.0 in rise_from_lower (suc s.operation.index) low (live_of ss) next (omega arith) rest
    by_drop false rest = (h.0, rest)

-- indices rise with the places
pub at_least : (low : ℕ) (ss : List Slot) (next k : ℕ) (d : Slot) → IndicesRise low (all_of ss) next → k < length ss → low ≤ (get_or ss k d).operation.index
at_least low [] next k d rise lt = absurd (omega arith)
at_least low (s ∷ ss) next zero d rise lt = rise.0
at_least low (s ∷ ss) next (suc k) d rise lt =
    let from : low ≤ s.operation.index = rise.0 in
    let on : suc s.operation.index ≤ (get_or ss k d).operation.index = at_least (suc s.operation.index) ss next k d rise.1 (omega arith) in omega arith

rises : (low : ℕ) (ss : List Slot) (next j k : ℕ) (d : Slot) → IndicesRise low (all_of ss) next → j < k → k < length ss → (get_or ss j d).operation.index < (get_or ss k d).operation.index
rises low [] next j k d rise jk lt = absurd (omega arith)
rises low (s ∷ ss) next zero zero d rise jk lt = absurd (omega arith)
rises low (s ∷ ss) next zero (suc k) d rise jk lt = at_least (suc s.operation.index) ss next k d rise.1 (omega arith)
rises low (s ∷ ss) next (suc j) zero d rise jk lt = absurd (omega arith)
rises low (s ∷ ss) next (suc j) (suc k) d rise jk lt = rises (suc s.operation.index) ss next j k d rise.1 (omega arith) (omega arith)

-- an index that stands below all is not there
absent : (ss : List Slot) (i low next : ℕ) → IndicesRise low (all_of ss) next → i < low → has_op (live_of ss) i ≡ false
absent [] i low next rise lt = refl
absent (s ∷ ss) i low next rise lt = by_drop s.is_dropped (absent ss i (suc s.operation.index) next rise.1 (omega (arith, above)))
  where
    above : low ≤ s.operation.index
    above = rise.0

    apart : eqb s.operation.index i ≡ false
    apart = grind (arith, above, lt)

    by_drop : (d : Bool) → has_op (live_of ss) i ≡ false → has_op (ops (cond (not d) (s ∷ kept ss) (kept ss))) i ≡ false
    by_drop true rest = rest
    by_drop false rest = ap (λ (b : Bool). b || has_op (live_of ss) i) apart ∙ rest

-- where all before the place are less, and none from it on, the index is there just where it is at the place
at_place : (low : ℕ) (ss : List Slot) (next place i : ℕ) → IndicesRise low (all_of ss) next → place ≤ length ss
    → ((k : ℕ) (d : Slot) → k < place → (get_or ss k d).operation.index < i) → ((k : ℕ) (d : Slot) → place ≤ k → k < length ss → i ≤ (get_or ss k d).operation.index)
    → has_op (live_of ss) i ≡ is_live_at ss place i
at_place low [] next place i rise within before behind = nothing place
  where
    nothing : (p : ℕ) → false ≡ is_live_at [] p i
    nothing zero = refl
    nothing (suc p) = refl
at_place low (s ∷ ss) next zero i rise within before behind = by_drop s.is_dropped
  where
    later : has_op (live_of ss) i ≡ false
    later = let le : i ≤ s.operation.index = behind 0 s (omega arith) (omega arith) in absent ss i (suc s.operation.index) next rise.1 (omega arith)

    by_test : (b : Bool) → (b || has_op (live_of ss) i) ≡ (b && true)
    by_test true = refl
    by_test false = later

    by_drop : (d : Bool) → has_op (ops (cond (not d) (s ∷ kept ss) (kept ss))) i ≡ (eqb s.operation.index i && not d)
    by_drop true = later ∙ sym (and_no (eqb s.operation.index i))
    by_drop false = by_test (eqb s.operation.index i)
at_place low (s ∷ ss) next (suc p) i rise within before behind =
    by_drop s.is_dropped
    (at_place (suc s.operation.index) ss next p i rise.1 (omega arith) (λ k d h. before (suc k) d (omega arith)) (λ k d h l. behind (suc k) d (omega arith) (omega arith)))
  where
    apart : eqb s.operation.index i ≡ false
    apart = let lt : s.operation.index < i = before 0 s (omega arith) in grind (arith, lt)

    by_drop : (d : Bool) → has_op (live_of ss) i ≡ is_live_at ss p i → has_op (ops (cond (not d) (s ∷ kept ss) (kept ss))) i ≡ is_live_at ss p i
    by_drop true rest = rest
    by_drop false rest = ap (λ (b : Bool). b || has_op (live_of ss) i) apart ∙ rest

-- whether an index is live is told at its place
pub has_at : (ss : List Slot) (next place i : ℕ) → IndicesRise 0 (all_of ss) next → IsPlaceOf ss i place → has_op (live_of ss) i ≡ is_live_at ss place i
has_at ss next place i rise at = at_place 0 ss next place i rise at.within at.before at.behind

-- an index is not live at the place of another
pub not_here : (ss : List Slot) (place i : ℕ) (s : Slot) → place < length ss → s ≡ get_or ss place s → eqb s.operation.index i ≡ false → is_live_at ss place i ≡ false
not_here [] place i s lt is other = absurd (omega arith)
not_here (t ∷ ss) zero i s lt is other = ap (λ (r : Slot). eqb r.operation.index i && not r.is_dropped) (sym is) ∙ ap (λ (b : Bool). b && not s.is_dropped) other
not_here (t ∷ ss) (suc k) i s lt is other = not_here ss k i s (omega arith) is other

-- nor behind the last slot
pub not_past : (ss : List Slot) (place i : ℕ) → length ss ≤ place → is_live_at ss place i ≡ false
not_past [] zero i past = refl
not_past [] (suc k) i past = refl
not_past (s ∷ ss) zero i past = absurd (omega arith)
not_past (s ∷ ss) (suc k) i past = not_past ss k i (omega arith)

-- what is live at a place
pub live_there : (ss : List Slot) (place i : ℕ) (d : Slot) → is_live_at ss place i ≡ true → In (get_or ss place d).operation (live_of ss) × ((get_or ss place d).operation.index ≡ i)
live_there [] zero i d h = cc
live_there [] (suc k) i d h = cc
live_there (s ∷ ss) zero i d h =
    let parts = and_parts (eqb s.operation.index i) (not s.is_dropped) h in
    (by_drop s.is_dropped parts.1, grind (arith, parts.0))
  where
    by_drop : (b : Bool) → not b ≡ true → In s.operation (ops (cond (not b) (s ∷ kept ss) (kept ss)))
    by_drop false k = inl refl
    by_drop true k = cc
live_there (s ∷ ss) (suc k) i d h = let rest = live_there ss k i d h in (by_drop s.is_dropped rest.0, rest.1)
  where
    by_drop : (b : Bool) → In (get_or ss k d).operation (live_of ss) → In (get_or ss k d).operation (ops (cond (not b) (s ∷ kept ss) (kept ss)))
    by_drop true there = there
    by_drop false there = inr there

-- One step of the halving, by the slot at a middle.
pub middle_below : (ss : List Slot) (m i : ℕ) (x : Slot) → AreInOrder ss → m < length ss → x ≡ get_or ss m x
    → x.operation.index < i → (k : ℕ) (d : Slot) → k < m + 1 → (get_or ss k d).operation.index < i
middle_below ss m i x order within is lt k d km = by_order (eqb k m) refl
  where
    at : (get_or ss m d).operation.index ≡ x.operation.index
    at = ap (λ (s : Slot). s.operation.index) (get_or_default ss m d x within ∙ sym is)

    by_order : (b : Bool) → eqb k m ≡ b → (get_or ss k d).operation.index < i
    by_order true e =
        let same : k ≡ m = grind (arith, e) in
        let moved : (get_or ss k d).operation.index ≡ x.operation.index = ap (λ (j : ℕ). (get_or ss j d).operation.index) same ∙ at in omega arith
    by_order false e =
        let before : k < m = grind (arith, e, km) in
        let less : (get_or ss k d).operation.index < (get_or ss m d).operation.index = rises 0 ss order.0 k m d order.1 before within in omega (arith, at)

-- From the middle on no index is less, where that of the middle is not.
pub middle_above : (ss : List Slot) (m i : ℕ) (x : Slot) → AreInOrder ss → m < length ss → x ≡ get_or ss m x → i ≤ x.operation.index
    → (k : ℕ) (d : Slot) → m ≤ k → k < length ss → i ≤ (get_or ss k d).operation.index
middle_above ss m i x order within is le k d mk short = by_order (eqb k m) refl
  where
    at : (get_or ss m d).operation.index ≡ x.operation.index
    at = ap (λ (s : Slot). s.operation.index) (get_or_default ss m d x within ∙ sym is)

    by_order : (b : Bool) → eqb k m ≡ b → i ≤ (get_or ss k d).operation.index
    by_order true e =
        let same : k ≡ m = grind (arith, e) in
        let moved : (get_or ss k d).operation.index ≡ x.operation.index = ap (λ (j : ℕ). (get_or ss j d).operation.index) same ∙ at in omega arith
    by_order false e =
        let behind : m < k = grind (arith, e, mk) in
        let less : (get_or ss m d).operation.index < (get_or ss k d).operation.index = rises 0 ss order.0 m k d order.1 behind short in omega (arith, at)
