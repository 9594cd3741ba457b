-- The place of the letter of a number.
use Rattle.std.proofs.Common.{◌≡◌, ◌≤◌, ◌<◌, ℕ, ◌+◌, ◌-◌, eqb, Bool, true, false, ◌||◌, if◌then◌else◌, length, get_or, Option, Some, None, slice_get, refl, ap, ◌∙◌, subst, arith, eqb-true}
use Rattle.std.proofs.lemmas.Option.{slice_get-get_or, slice_get_past}
use Rattle.cam_event.specs.declared.LetterId.{LetterId}
use Rattle.cam_runs.specs.Running.{has_number}
use Rattle.cam_timed.specs.TimedRunning.{TimedRunning, letters, letter_of}
use Rattle.cam_timed.specs.Courses.{IsPlaceOf}

-- the letter of a number
letter_at_place : (r : TimedRunning) (place : ℕ) → letter_of r (place + 1)
    ≡ (if has_number r.lost (place + 1) then None else slice_get (letters r.trace) place)
letter_at_place r place =
    λ i. if none i || has_number r.lost (place + 1) then None
    else slice_get (letters r.trace) (back i)
  where
    back : place + 1 - 1 ≡ place
    back = omega arith

    by : (b : Bool) → eqb (place + 1) 0 ≡ b → b ≡ false
    by true e = let same = eqb-true (place + 1) 0 e in absurd (omega (arith, same))
    by false e = refl

    none : eqb (place + 1) 0 ≡ false
    none = by (eqb (place + 1) 0) refl

-- no letter has a number that was not given
pub none_past : (r : TimedRunning) (number place : ℕ) → place + 1 ≡ number
    → length (letters r.trace) ≤ place → IsPlaceOf r number None
none_past r number place same past =
    subst (λ n. IsPlaceOf r n None) same
    (letter_at_place r place
    ∙ by (has_number r.lost (place + 1)) (slice_get (letters r.trace) place)
    (slice_get_past (letters r.trace) place past))
  where
    by : (b : Bool) (o : Option LetterId) → o ≡ None → (if b then None else o) ≡ None
    by true o e = refl
    by false o e = e

-- nor one that is lost
pub none_lost : (r : TimedRunning) (number place : ℕ) → place + 1 ≡ number
    → has_number r.lost (place + 1) ≡ true → IsPlaceOf r number None
none_lost r number place same gone = subst (λ n. IsPlaceOf r n None) same (at gone)
  where
    at : has_number r.lost (place + 1) ≡ true → letter_of r (place + 1) ≡ None
    at lost =
        letter_at_place r place
        ∙ ap (λ b. if b then None else slice_get (letters r.trace) place) lost

-- else it has its place
pub place_at : (r : TimedRunning) (number place : ℕ) → place + 1 ≡ number
    → place < length (letters r.trace) → has_number r.lost (place + 1) ≡ false
    → IsPlaceOf r number (Some place)
place_at r number place same there stays =
    subst (λ n. IsPlaceOf r n (Some place)) same (at stays)
  where
    no_letter : LetterId
    no_letter = record { event = 0; place = 0 }

    is : slice_get (letters r.trace) place ≡ Some (get_or (letters r.trace) place no_letter)
    is = slice_get-get_or (letters r.trace) place no_letter there

    at : has_number r.lost (place + 1) ≡ false → IsPlaceOf r (place + 1) (Some place)
    at free = (
      get_or (letters r.trace) place no_letter,
      letter_at_place r place
          ∙ ap (λ b. if b then None else slice_get (letters r.trace) place) free ∙ is,
      is,
    )
