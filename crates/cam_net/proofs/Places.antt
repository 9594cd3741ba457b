-- The first place that passes a test: how it is found, and how it grows.
use Rattle.std.proofs.Common.{inl, inr, ◌≡◌, ℕ, zero, suc, ◌+◌, ◌<◌, ◌≤◌, Bool, true, false, List, [], ◌∷◌, ◌++◌, length, get_or, set, get_or-set_same, get_or-set_other, eqb, slice_index, slice_set, refl, sym, subst, ◌∙◌, arith}
use Rattle.std.specs.List.{position_or_len}
use Rattle.std.proofs.lemmas.Bool.{cases_Bool, eqb-true, eqb-false}
use Rattle.std.proofs.lemmas.List.Sums.{prefix_len-le-length}
use Rattle.cam_net.specs.Letters.{InFlightFields}
use Rattle.cam_net.specs.Waiting.{waits_for, first_for, NoneAfterFirst, AreFirst}

module _ {X : Type 0} (p : X → Bool) where
  pub first_within : (xs : List X) → position_or_len p xs ≤ length xs
  first_within xs = prefix_len-le-length _ xs

  pub at_passing : (x : X) (xs : List X) → p x ≡ true → position_or_len p (x ∷ xs) ≡ 0
  at_passing x xs e = rw e refl

  pub at_failing : (x : X) (xs : List X) → p x ≡ false → position_or_len p (x ∷ xs) ≡ 1 + position_or_len p xs
  at_failing x xs e = rw e refl

  -- The place is not behind the first. If it fails, the first is behind it; if it passes, or is behind the list, it is the first.
  pub first_behind : (xs : List X) (k : ℕ) (d : X) → k ≤ position_or_len p xs → k < length xs → p (get_or xs k d) ≡ false → k + 1 ≤ position_or_len p xs
  first_behind [] k d low within fails = absurd (omega (arith, within))
  first_behind (x ∷ xs) zero d low within fails = omega (arith, at_failing x xs fails)
  first_behind (x ∷ xs) (suc k) d low within fails =
      elim (cases_Bool (p x)) [
        | inl hit ↦ omega (arith, at_passing x xs hit, low)
        | inr miss ↦ omega (arith, at_failing x xs miss, first_behind xs k d (omega (arith, at_failing x xs miss, low)) (omega (arith, within)) fails)
      ]

  pub first_here : (xs : List X) (k : ℕ) (d : X) → k ≤ position_or_len p xs → p (get_or xs k d) ≡ true → k < length xs → k ≡ position_or_len p xs
  first_here [] k d low hit within = absurd (omega (arith, within))
  first_here (x ∷ xs) zero d low hit within = sym (at_passing x xs hit)
  first_here (x ∷ xs) (suc k) d low hit within =
      elim (cases_Bool (p x)) [
        | inl first ↦ omega (arith, at_passing x xs first, low)
        | inr miss ↦ omega (arith, at_failing x xs miss, first_here xs k d (omega (arith, at_failing x xs miss, low)) hit (omega (arith, within)))
      ]

  -- where a value is put behind the list, the first place is not before the one it was
  pub first_grows : (xs : List X) (y : X) → position_or_len p xs ≤ position_or_len p (xs ++ y ∷ [])
  first_grows [] y = omega arith
  first_grows (x ∷ xs) y =
      elim (cases_Bool (p x)) [
        | inl hit ↦ omega (arith, at_passing x xs hit, at_passing x (xs ++ y ∷ []) hit)
        | inr miss ↦ omega (arith, at_failing x xs miss, at_failing x (xs ++ y ∷ []) miss, first_grows xs y)
      ]

  -- nor where a value comes to fail
  pub first_after : (xs : List X) (i : ℕ) (y : X) → p y ≡ false → position_or_len p xs ≤ position_or_len p (set xs i y)
  first_after [] i y fails = omega arith
  first_after (x ∷ xs) zero y fails =
      elim (cases_Bool (p x)) [
        | inl hit ↦ omega (arith, at_passing x xs hit)
        | inr miss ↦ omega (arith, at_failing x xs miss, at_failing y xs fails)
      ]
  first_after (x ∷ xs) (suc i) y fails =
      elim (cases_Bool (p x)) [
        | inl hit ↦ omega (arith, at_passing x xs hit, at_passing x (set xs i y) hit)
        | inr miss ↦ omega (arith, at_failing x xs miss, at_failing x (set xs i y) miss, first_after xs i y fails)
      ]

-- one place more is found, and the others stay
pub places_found : (letters : List InFlightFields) (places : List ℕ) (at found : ℕ) → at < length places → found ≡ first_for (suc at) letters
    → NoneAfterFirst places letters → ((place : ℕ) → place < at → slice_index places place ≡ first_for (suc place) letters)
    → NoneAfterFirst (slice_set places at found) letters × ((place : ℕ) → place < at + 1 → slice_index (slice_set places at found) place ≡ first_for (suc place) letters)
places_found letters places at found within is after before = (λ place low. none place low, λ place low. here place low)
  where
    same : slice_index (slice_set places at found) at ≡ first_for (suc at) letters
    same = get_or-set_same places at found 0 within ∙ is

    other : (place : ℕ) → (place ≡ at → ⊥) → slice_index (slice_set places at found) place ≡ slice_index places place
    other place differs = get_or-set_other places at place found 0 differs

    none : (place : ℕ) → place < 8 → slice_index (slice_set places at found) place ≤ first_for (suc place) letters
    none place low =
        elim (cases_Bool (eqb place at)) [
          | inl its ↦
              let e = eqb-true place at its in
              subst (λ n. slice_index (slice_set places at found) n ≤ first_for (suc n) letters) (sym e) (omega (arith, same))
          | inr not_its ↦ omega (arith, other place (eqb-false place at not_its), after place low)
        ]

    here : (place : ℕ) → place < at + 1 → slice_index (slice_set places at found) place ≡ first_for (suc place) letters
    here place low =
        elim (cases_Bool (eqb place at)) [
          | inl its ↦ subst (λ n. slice_index (slice_set places at found) n ≡ first_for (suc n) letters) (sym (eqb-true place at its)) same
          | inr not_its ↦
              let differs = eqb-false place at not_its in
              other place differs ∙ before place (omega (arith, low, differs))
        ]

-- places that are first stay not behind the first where a letter comes to wait for no node
pub still_before : (letters : List InFlightFields) (places : List ℕ) (at : ℕ) (letter : InFlightFields) → AreFirst places letters
    → ((node : ℕ) → waits_for node letter ≡ false) → NoneAfterFirst places (set letters at letter)
still_before letters places at letter first idle =
    λ place low. omega (arith, first place low, first_after (waits_for (suc place)) letters at letter (idle (suc place)))
