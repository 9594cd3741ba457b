-- What the end of a halt makes of the agreement with stop lines, lost or found to be taken.
use Rattle.std.proofs.Common.{◌≡◌, inl, inr, ℕ, ◌+◌, ◌<◌, eqb, Bool, true, false, not, ◌&&◌}
use Rattle.std.proofs.Common.{if◌then◌else◌, List, [], ◌∷◌, filter, Option, Some, None}
use Rattle.std.proofs.Common.{◌⊎◌, refl, sym, ap, ◌∙◌, arith}
use Rattle.std.proofs.lemmas.Bool.{eq-eqb, ne_eqb, and_parts}
use Rattle.std.proofs.lemmas.Bool.Decides.{eqb_tells}
use Rattle.std.proofs.lemmas.Option.{same_Some}
use Rattle.cam_runs.specs.Running.{has_number}
use Rattle.cam_runs.specs.Halts.{Turn, Input, Stop, Restart, accepted}
use Rattle.cam_runs.specs.Halts.{Halting, by_stops}
use Rattle.cam_runs.specs.Stops.{last_input, last_stop, known_of, but_for, AgreesWithStops}
use Rattle.cam_runs.specs.Stops.{LostHaltsAgree, FoundHaltsAgree}
use Rattle.cam_runs.proofs.StopsAgree.{agree_for, agree_alike, and_false, and_true}

-- the nodes that are halted behind the end of a halt
ended_are : (xs : List ℕ) (s m : ℕ)
    → but_for s (has_number xs) m ≡ has_number (filter (λ n. not (eqb n s)) xs) m
ended_are [] s m = refl
ended_are (x ∷ xs) s m = by (ended_are xs s m) (eqb_tells x s) (eqb_tells x m)
  where
    by : but_for s (has_number xs) m ≡ has_number (filter (λ n. not (eqb n s)) xs) m
        → ((eqb x s ≡ true) × (x ≡ s)) ⊎ ((eqb x s ≡ false) × (x ≡ s → ⊥))
        → ((eqb x m ≡ true) × (x ≡ m)) ⊎ ((eqb x m ≡ false) × (x ≡ m → ⊥))
        → but_for s (has_number (x ∷ xs)) m
        ≡ has_number (filter (λ n. not (eqb n s)) (x ∷ xs)) m
    by rest (inl y) (inl z) =
        rw (y.0, z.0, eq-eqb m s (sym z.1 ∙ y.1))
        (sym (and_false (has_number xs m))
        ∙ ap (λ b. has_number xs m && not b) (sym (eq-eqb m s (sym z.1 ∙ y.1))) ∙ rest)
    by rest (inl y) (inr z) = rw (y.0, z.0) rest
    by rest (inr y) (inl z) = rw (y.0, z.0, ne_eqb m s (λ e. y.1 (z.1 ∙ e))) refl
    by rest (inr y) (inr z) = rw (y.0, z.0) rest

known_lost : (halted : Bool) (said : Option Bool) → (halted ≡ true → said ≡ Some true → ⊥)
    → known_of halted said ≡ said
known_lost false said lost = refl
known_lost true None lost = refl
known_lost true (Some false) lost = refl
known_lost true (Some true) lost = absurd (lost refl refl)

-- one node left out twice, and two in either order
but_twice : (halted : ℕ → Bool) (m s n : ℕ) → m ≡ s
    → but_for m halted n ≡ but_for m (but_for s halted) n
but_twice halted m s n same =
    twice (halted n) (not (eqb n m))
    ∙ ap (λ k. (halted n && not (eqb n k)) && not (eqb n m)) same
  where
    twice : (x y : Bool) → (x && y) ≡ ((x && y) && y)
    twice true true = refl
    twice true false = refl
    twice false y = refl

but_both : (halted : ℕ → Bool) (m s n : ℕ)
    → but_for s (but_for m halted) n ≡ but_for m (but_for s halted) n
but_both halted m s n = both (halted n) (not (eqb n m)) (not (eqb n s))
  where
    both : (x y z : Bool) → ((x && y) && z) ≡ ((x && z) && y)
    both true true true = refl
    both true true false = refl
    both true false true = refl
    both true false false = refl
    both false y z = refl

-- a node that is no longer halted, whose last halt was lost
lost_agree : (halts : Halting) (turns : List Turn) (halted : ℕ → Bool) (s : ℕ)
    → AgreesWithStops halts turns halted
    → (halted s ≡ true → last_stop turns s ≡ Some true → ⊥)
    → AgreesWithStops halts turns (but_for s halted)
lost_agree halts [] halted s h lost = tt
lost_agree halts (Input m line w again ∷ before) halted s h lost = elim (eqb_tells m s) [
  | inl y ↦
      let said : Option Bool = by_stops before m w again in
      let here : last_stop (Input m line w again ∷ before) s ≡ said = rw y.0 refl in
      let left : but_for s halted m ≡ false = rw y.0 (and_false (halted m)) in (
        h.0
            ∙ known_lost (halted m) said (λ on is. lost (sym (ap halted y.1) ∙ on) (here ∙ is))
            ∙ sym (ap (λ b. known_of b said) left),
        agree_for halts before (but_for m halted) (but_for m (but_for s halted))
            (λ n. but_twice halted m s n y.1) h.1,
      )
  | inr other ↦
      let said : Option Bool = by_stops before m w again in
      let older : last_stop (Input m line w again ∷ before) s ≡ last_stop before s =
      rw other.0 refl in
      let stays : halted m ≡ but_for s halted m = rw other.0 (sym (and_true (halted m))) in (
        h.0 ∙ ap (λ b. known_of b said) stays,
        agree_for halts before (but_for s (but_for m halted)) (but_for m (but_for s halted))
            (λ n. but_both halted m s n)
            (lost_agree halts before (but_for m halted) s h.1
            (λ on is. lost (and_parts (halted s) (not (eqb s m)) on).0 (older ∙ is))),
      )
]
lost_agree halts (Stop m calls ∷ before) halted s h lost = lost_agree halts before halted s h lost
lost_agree halts (Restart m ∷ before) halted s h lost = lost_agree halts before halted s h lost

pub lost_halts_agree : LostHaltsAgree
lost_halts_agree halts st s h lost =
    agree_for halts st.turns (but_for s (has_number st.halted))
    (has_number (filter (λ n. not (eqb n s)) st.halted)) (ended_are st.halted s)
    (lost_agree halts st.turns (has_number st.halted) s h lost)

-- The last input of a node was accepted.
last_below : (turns : List Turn) (s k : ℕ) → last_input turns s ≡ Some k → k < accepted turns
last_below [] s k h = cc
last_below (Input m line w again ∷ before) s k h = by (eqb m s) h (last_below before s k)
  where
    by : (b : Bool) → (if b then Some (accepted before) else last_input before s) ≡ Some k
        → (last_input before s ≡ Some k → k < accepted before) → k < accepted before + 1
    by true is rest = let same = same_Some (accepted before) k is in omega (arith, same)
    by false is rest = let low = rest is in omega (arith, low)
last_below (Stop m calls ∷ before) s k h = last_below before s k h
last_below (Restart m ∷ before) s k h = last_below before s k h

-- a node that is no longer halted, whose last halt was taken
module _ (halts found : Halting) (s k : ℕ)
    (alike : (turns : List Turn) (m : ℕ) (w again : Bool) → (accepted turns ≡ k → ⊥)
    → halts turns m w again ≡ found turns m w again)
    (took : (turns : List Turn) (m : ℕ) (w again : Bool) → accepted turns ≡ k
    → found turns m w again ≡ Some true)
  where
    found_agree : (turns : List Turn) (halted : ℕ → Bool) → AgreesWithStops halts turns halted
        → last_input turns s ≡ Some k → last_stop turns s ≡ Some true
        → AgreesWithStops found turns (but_for s halted)
    found_agree [] halted h last taken = cc
    found_agree (Input m line w again ∷ before) halted h last taken = elim (eqb_tells m s) [
      | inl y ↦
          let said : Option Bool = by_stops before m w again in
          let here : last_stop (Input m line w again ∷ before) s ≡ said = rw y.0 refl in
          let now : last_input (Input m line w again ∷ before) s ≡ Some (accepted before) =
          rw y.0 refl in
          let at : accepted before ≡ k = same_Some (accepted before) k (sym now ∙ last) in
          let left : but_for s halted m ≡ false = rw y.0 (and_false (halted m)) in (
            took before m w again at ∙ sym taken ∙ here
                ∙ sym (ap (λ b. known_of b said) left),
            agree_alike halts found before (but_for m (but_for s halted))
                (λ past n v a low. alike past n v a (λ e. omega (arith, e, at, low)))
                (agree_for halts before (but_for m halted) (but_for m (but_for s halted))
                (λ n. but_twice halted m s n y.1) h.1),
          )
      | inr other ↦
          let said : Option Bool = by_stops before m w again in
          let older : last_stop (Input m line w again ∷ before) s ≡ last_stop before s =
          rw other.0 refl in
          let was : last_input (Input m line w again ∷ before) s ≡ last_input before s =
          rw other.0 refl in
          let low = last_below before s k (sym was ∙ last) in
          let stays : halted m ≡ but_for s halted m = rw other.0 (sym (and_true (halted m))) in (
            sym (alike before m w again (λ e. omega (arith, e, low))) ∙ h.0
                ∙ ap (λ b. known_of b said) stays,
            agree_for found before (but_for s (but_for m halted)) (but_for m (but_for s halted))
                (λ n. but_both halted m s n)
                (found_agree before (but_for m halted) h.1 (sym was ∙ last) (sym older ∙ taken)),
          )
    ]
    found_agree (Stop m calls ∷ before) halted h last taken = found_agree before halted h last taken
    found_agree (Restart m ∷ before) halted h last taken = found_agree before halted h last taken

pub found_halts_agree : FoundHaltsAgree
found_halts_agree halts found st s k h last taken alike took =
    agree_for found st.turns (but_for s (has_number st.halted))
    (has_number (filter (λ n. not (eqb n s)) st.halted)) (ended_are st.halted s)
    (found_agree halts found s k alike took st.turns (has_number st.halted) h last taken)
