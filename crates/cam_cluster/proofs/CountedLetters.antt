-- The letter of a number, found by how many letters were sent until each event.
use Rattle.std.proofs.Common.{◌≡◌, ℕ, zero, suc, ◌+◌, ◌-◌, ◌^◌, ◌≤◌, ◌<◌, List, [], ◌∷◌, get_or}
use Rattle.std.proofs.Common.{length}
use Rattle.std.proofs.Common.{if◌then◌else◌, inl, inr, Some, None, sym, ap, ◌∙◌, subst, true, false}
use Rattle.std.proofs.Common.{arith}
use Rattle.std.specs.Prelude.{min, ltb, reverse, slice_get}
use Rattle.std.specs.List.Sorted.{IsNonDecreasingBy, IsPartitionPoint, IsPartitionedBy}
use Rattle.std.proofs.lemmas.Bool.{ne_eqb, true≢false}
use Rattle.std.proofs.lemmas.Bool.Decides.{Decides-ltb, leb_tells}
use Rattle.std.proofs.lemmas.Option.{slice_get_past}
use Rattle.std.proofs.lemmas.List.{length-reverse}
use Rattle.std.proofs.lemmas.List.Sorted.{IsPartitionedBy-ltb}
use Rattle.cam_event.specs.declared.Event.{Event}
use Rattle.cam_event.specs.declared.LetterId.{LetterId}
use Rattle.cam_runs.specs.Running.{ids_from, letters}
use Rattle.cam_cluster.specs.Coming.{numbered}
use Rattle.cam_cluster.specs.LetterCounts.{count_before, letter_counts, most_letters}
use Rattle.cam_cluster.proofs.Letters.{behind_front, in_front}
use Rattle.cam_cluster.proofs.NumberedLetters.{id_there}
use Rattle.cam_cluster.proofs.LetterCounts.{last_count, one_more, before_stays, count_stays}
use Rattle.cam_cluster.proofs.LetterCounts.{as_many, newest_count, min_low, min_is, counts_low}
use Rattle.cam_cluster.proofs.LetterCounts.{counts_rise}

abbrev id_at : ℕ → ℕ → LetterId
id_at event place = record { event = event; place = place }

-- The letter at a place among all is in the first event until which more were sent than lie before
-- it.
pub there : (t : List Event) (k p : ℕ) → k < most_letters → p < length t
    → k < get_or (letter_counts t) p 0 → count_before (letter_counts t) p ≤ k
    → slice_get (letters t) k
    ≡ Some (record { event = p; place = k - count_before (letter_counts t) p })
there [] k p few low less more = absurd (omega (arith, low))
there (e ∷ t) k p few low less more =
    elim (leb_tells (length t) p)
    [ inl at ↦ newest (at_end at.1) | inr at ↦ older at.1 (there t k p few at.1) ]
  where
    c : ℕ
    c = min most_letters (length (letters (e ∷ t)))

    at_end : length t ≤ p → p ≡ length t
    at_end past = omega (arith, low, past)

    Found : ℕ → Type 0
    Found before = slice_get (letters (e ∷ t)) k ≡ Some (record { event = p; place = k - before })

    older : p < length t
        → (k < get_or (letter_counts t) p 0 → count_before (letter_counts t) p ≤ k
        → slice_get (letters t) k
        ≡ Some (record { event = p; place = k - count_before (letter_counts t) p }))
        → Found (count_before (letter_counts (e ∷ t)) p)
    older within rest =
        subst Found (sym (before_stays t c p (omega (arith, within))))
        (in_front (letters t) (ids_from (length t) 0 e.sent) k inside
        ∙ rest (subst (λ (n : ℕ). k < n) (count_stays t c p within) less)
        (subst (λ (n : ℕ). n ≤ k) (before_stays t c p (omega (arith, within))) more))
      where
        inside : k < length (letters t)
        inside =
            let stays = count_stays t c p within in
            let small = counts_low t p within in
            omega (arith, stays, small, less)

    newest : p ≡ length t → Found (count_before (letter_counts (e ∷ t)) p)
    newest is =
        subst Found (sym before_is)
        (behind_front (letters t) (ids_from (length t) 0 e.sent) k past
        ∙ id_there (length t) 0 e.sent (k - length (letters t)) inside
        ∙ ap (λ (id : LetterId). Some id) same)
      where
        capped : count_before (letter_counts (e ∷ t)) p ≡ min most_letters (length (letters t))
        capped =
            ap (λ (n : ℕ). count_before (letter_counts (e ∷ t)) n) is
            ∙ before_stays t c (length t) (omega arith)
            ∙ last_count t

        before_is : count_before (letter_counts (e ∷ t)) p ≡ length (letters t)
        before_is = capped ∙ min_is _ _ _ (rw (← capped) more) few

        past : length (letters t) ≤ k
        past = rw (← before_is) more

        inside : k - length (letters t) < length e.sent
        inside =
            let count = newest_count t c p 0 is in
            let small = min_low most_letters (length (letters (e ∷ t))) in
            let all = one_more e t in
            omega (arith, count, small, all, less, past)

        same : id_at (length t) (0 + (k - length (letters t))) ≡ id_at p (k - length (letters t))
        same =
            ap (id_at (length t)) (omega arith)
            ∙ ap (λ (n : ℕ). id_at n (k - length (letters t))) (sym is)

-- none is there where no more were sent until the newest event
pub none_there : (t : List Event) (k : ℕ) → k < most_letters
    → count_before (letter_counts t) (length t) ≤ k → slice_get (letters t) k ≡ None
none_there t k few low =
    let small = subst (λ (n : ℕ). n ≤ k) (last_count t) low in
    let all = min_is _ _ _ small few in
    slice_get_past (letters t) k (omega (arith, small, all))

pub numbered_is : (events : List Event) (number : ℕ) → 1 ≤ number
    → slice_get (letters (reverse events)) (number - 1) ≡ numbered events number
numbered_is events number low =
    sym (ap (λ b. if b then None else slice_get (letters (reverse events)) (number - 1))
    (ne_eqb number 0 (λ e. omega (arith, e, low))))

-- no more were sent before a place than until the places before it
pub before_low : (counts : List ℕ) (p k : ℕ) → ((j : ℕ) → j < p → get_or counts j 0 ≤ k)
    → count_before counts p ≤ k
before_low counts zero k low = omega arith
before_low counts (suc p) k low = low p (omega arith)

-- What a search by the counts asks.
pub parted : (events : List Event) (counts : List ℕ) (number : ℕ)
    → counts ≡ letter_counts (reverse events) → IsPartitionedBy (λ (n : ℕ). ltb n number) counts
parted events counts number are =
    IsPartitionedBy-ltb (λ (n : ℕ). n) counts number
    (subst (IsNonDecreasingBy (λ (n : ℕ). n)) (sym are) (counts_rise (reverse events)))

-- A search finds the first event until which no fewer letters were sent than a number says.
module _ (events : List Event) (counts : List ℕ) (number earlier place : ℕ)
    (are : counts ≡ letter_counts (reverse events)) (low : 1 ≤ number)
    (high : number < 2 ^ 32) (is : earlier ≡ number - 1) (bound : place ≤ length counts)
    (point : IsPartitionPoint (λ (n : ℕ). ltb n number ≡ true) (λ (n : ℕ). ltb n number ≡ false)
    counts place) where
  few : number - 1 < most_letters
  few = omega (arith, low, high)

  pub before_number : count_before counts place ≤ earlier
  before_number =
      before_low _ _ _ (λ j less. let below : get_or counts j 0 < number =
      (Decides-ltb (get_or counts j 0) number).0 (point.0 j 0 (omega arith) less) in
      omega (arith, below, is))

  so_far : count_before (letter_counts (reverse events)) place ≤ number - 1
  so_far = rw (← are) (rw (← is) before_number)

  pub none_found : place ≡ length events → None ≡ numbered events number
  none_found past =
      sym (none_there (reverse events) (number - 1) few
      (subst (λ (n : ℕ). count_before (letter_counts (reverse events)) n ≤ number - 1)
      (past ∙ sym (length-reverse events)) so_far))
      ∙ numbered_is events number low

  pub one_found : (before : ℕ) → (place ≡ length events → ⊥) → before ≡ count_before counts place
      → Some (record { event = place; place = earlier - before }) ≡ numbered events number
  one_found before other before_is =
      ap (λ (n : ℕ). Some (record { event = place; place = n })) left
      ∙ sym (there (reverse events) (number - 1) place few
      (subst (λ (n : ℕ). place < n) (sym (length-reverse events)) within) above so_far)
      ∙ numbered_is events number low
    where
      many : length counts ≡ length events
      many = as_many events counts are

      within : place < length events
      within = elim (leb_tells (length events) place) [
        | inl at ↦ let past = at.1 in absurd (other (omega (arith, past, bound, many)))
        | inr at ↦ at.1
      ]

      left : earlier - before
          ≡ number - 1 - count_before (letter_counts (reverse events)) place
      left =
          ap (λ (n : ℕ). n - before) is
          ∙ ap (λ (n : ℕ). number - 1 - n)
          (before_is ∙ ap (λ (xs : List ℕ). count_before xs place) are)

      above : number - 1 < get_or (letter_counts (reverse events)) place 0
      above =
          rw (← are) (let not_below : (get_or counts place 0 < number → ⊥) =
          λ less. true≢false (sym ((Decides-ltb (get_or counts place 0) number).1 less) ∙ point.1
          place 0 (omega arith) (omega (arith, many, within))) in
          elim (leb_tells number (get_or counts place 0)) [
            | inl at ↦ let up = at.1 in omega (arith, up, low)
            | inr at ↦ absurd (not_below at.1)
          ])
