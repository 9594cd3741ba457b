-- The letter of a course by time that waits.
use Rattle.std.proofs.Common.{◌≡◌, ◌≤◌, ◌<◌, ℕ, zero, suc, ◌+◌, true, false, if◌then◌else◌, List, [], ◌∷◌, length, drop, get_or, Some, None, refl, sym, ap, ◌∙◌, subst, arith}
use Rattle.std.proofs.lemmas.List.{drop_all, drop_more}
use Rattle.std.proofs.lemmas.Option.{slice_get-get_or}
use Rattle.cam_event.specs.declared.LetterId.{LetterId}
use Rattle.cam_timed.specs.TimedRunning.{TimedRunning, letters, is_out, waiting, waiting_from}
use Rattle.cam_timed.specs.Courses.{WaitsAt}

-- past letters that are out
skip : (r : TimedRunning) (k n : ℕ) (ls : List LetterId)
    → ((p : ℕ) → p < n → is_out r (k + p) ≡ true)
    → waiting_from r k ls ≡ waiting_from r (k + n) (drop n ls)
skip r k zero ls out = let same : k ≡ k + 0 = omega arith in ap (λ m. waiting_from r m ls) same
skip r k (suc n) [] out = refl
skip r k (suc n) (l ∷ ls) out =
    ap (λ b. if b then waiting_from r (k + 1) ls else Some (k, l)) here
    ∙ skip r (k + 1) n ls later
    ∙ ap (λ m. waiting_from r m (drop n ls)) same
  where
    same : k + 1 + n ≡ k + suc n
    same = omega arith

    first : k + zero ≡ k
    first = omega arith

    here : is_out r k ≡ true
    here = subst (λ m. is_out r m ≡ true) first (out zero (omega arith))

    moved : (p : ℕ) → k + suc p ≡ k + 1 + p
    moved p = omega arith

    later : (p : ℕ) → p < n → is_out r (k + 1 + p) ≡ true
    later p below = subst (λ m. is_out r m ≡ true) (moved p) (out (suc p) (omega arith))

-- the letter that waits, if all before this place are out
module _ (r : TimedRunning) (place : ℕ)
    (out : (p : ℕ) → p < place → is_out r (p + 1) ≡ true) where
  swapped : (p : ℕ) → p + 1 ≡ 1 + p
  swapped p = omega arith

  from_here : waiting r ≡ waiting_from r (1 + place) (drop place (letters r.trace))
  from_here =
      skip r 1 place (letters r.trace)
      (λ p below. subst (λ m. is_out r m ≡ true) (swapped p) (out p below))

  -- none, if there are no more
  pub none_waits : length (letters r.trace) ≤ place → waiting r ≡ None
  none_waits all =
      from_here ∙ ap (waiting_from r (1 + place)) (drop_all place (letters r.trace) all)

  -- else the one here, if it is not out
  pub one_waits : place < length (letters r.trace) → is_out r (place + 1) ≡ false
      → WaitsAt r (Some place)
  one_waits there here = (
    letter,
    slice_get-get_or (letters r.trace) place no_letter there,
    from_here
        ∙ ap (waiting_from r (1 + place)) (drop_more (letters r.trace) place no_letter there)
        ∙ ap (λ b. if b then waiting_from r (1 + place + 1) (drop (place + 1) (letters r.trace))
        else Some (1 + place, letter))
        (subst (λ m. is_out r m ≡ false) (swapped place) here)
        ∙ ap (λ m. Some (m, letter)) (sym (swapped place)),
  )
    where
      no_letter : LetterId
      no_letter = record { event = 0; place = 0 }

      letter : LetterId
      letter = get_or (letters r.trace) place no_letter
