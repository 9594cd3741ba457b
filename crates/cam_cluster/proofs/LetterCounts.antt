-- The counts of letters: one for each event, and none falls.
use Rattle.std.proofs.Common.{◌≡◌, ℕ, zero, suc, ◌+◌, ◌-◌, ◌≤◌, ◌<◌, List, [], ◌∷◌, ◌++◌, get_or}
use Rattle.std.proofs.Common.{length}
use Rattle.std.proofs.Common.{inl, inr, refl, sym, ap, ◌∙◌, subst, arith, length-append}
use Rattle.std.specs.Prelude.{min, reverse}
use Rattle.std.specs.List.Sorted.{IsNonDecreasingBy}
use Rattle.std.proofs.Math.ListN.{get_or-append}
use Rattle.std.proofs.Math.Seq.{get_or-append_seam}
use Rattle.std.proofs.lemmas.Bool.Decides.{leb_tells}
use Rattle.std.proofs.lemmas.Grind.{common_steps}
use Rattle.std.proofs.lemmas.List.{length-reverse, reverse-append}
use Rattle.std.proofs.lemmas.List.Sorted.{IsNonDecreasingBy-push}
use Rattle.cam_event.specs.declared.Event.{Event}
use Rattle.cam_runs.specs.Running.{ids_from, letters}
use Rattle.cam_cluster.specs.LetterCounts.{count_before, letter_counts, most_letters}
use Rattle.cam_cluster.proofs.NumberedLetters.{ids_many}

-- a count for each event
pub one_each : (t : List Event) → length (letter_counts t) ≡ length t
one_each [] = refl
one_each (e ∷ t) =
    length-append (letter_counts t) (min most_letters (length (letters (e ∷ t))) ∷ [])
    ∙ ap (λ (n : ℕ). n + 1) (one_each t)
    ∙ omega arith

-- the count of the newest event is that of all letters
pub last_count : (t : List Event)
    → count_before (letter_counts t) (length t) ≡ min most_letters (length (letters t))
last_count [] = refl
last_count (e ∷ t) =
    ap (λ (n : ℕ). get_or (letter_counts (e ∷ t)) n 0) (sym (one_each t))
    ∙ get_or-append_seam (letter_counts t) (min most_letters (length (letters (e ∷ t)))) [] 0

-- the letters of a newer event come last
pub one_more : (e : Event) (t : List Event)
    → length (letters (e ∷ t)) ≡ length (letters t) + length e.sent
one_more e t =
    length-append (letters t) (ids_from (length t) 0 e.sent)
    ∙ ap (λ (n : ℕ). length (letters t) + n) (ids_many (length t) 0 e.sent)

-- places before the newest event
pub before_stays : (t : List Event) (c p : ℕ) → p ≤ length t
    → count_before (letter_counts t ++ c ∷ []) p ≡ count_before (letter_counts t) p
before_stays t c zero low = refl
before_stays t c (suc p) low =
    get_or-append (letter_counts t) (c ∷ []) 0 p (let many = one_each t in omega (arith, many, low))

pub count_stays : (t : List Event) (c p : ℕ) → p < length t
    → get_or (letter_counts t ++ c ∷ []) p 0 ≡ get_or (letter_counts t) p 0
count_stays t c p low =
    get_or-append (letter_counts t) (c ∷ []) 0 p (let many = one_each t in omega (arith, many, low))

pub newest_count : (t : List Event) (c p d : ℕ) → p ≡ length t
    → get_or (letter_counts t ++ c ∷ []) p d ≡ c
newest_count t c p d is =
    ap (λ (n : ℕ). get_or (letter_counts t ++ c ∷ []) n d) (is ∙ sym (one_each t))
    ∙ get_or-append_seam (letter_counts t) c [] d

pub min_low : (a b : ℕ) → min a b ≤ b
min_low a b = grind (arith, common_steps)

min_rises : (a b c : ℕ) → b ≤ c → min a b ≤ min a c
min_rises a b c low = grind (arith, common_steps, low)

pub min_is : (a b k : ℕ) → min a b ≤ k → k < a → min a b ≡ b
min_is a b k low less = grind (arith, common_steps, low, less)

pub min_once : (a b c : ℕ) → min a (min a b + c) ≡ min a (b + c)
min_once a b c = grind (arith, common_steps)

-- no count is larger than the number of letters
pub counts_low : (t : List Event) (p : ℕ) → p < length t
    → get_or (letter_counts t) p 0 ≤ length (letters t)
counts_low [] p low = absurd (omega (arith, low))
counts_low (e ∷ t) p low = elim (leb_tells (length t) p) [
  | inl at ↦
      rw (newest_count t (min most_letters (length (letters (e ∷ t)))) p 0 (let past = at.1 in omega
      (arith, low, past))) (min_low most_letters (length (letters (e ∷ t))))
  | inr at ↦
      let stays = count_stays t (min most_letters (length (letters (e ∷ t)))) p at.1 in
      let older = counts_low t p at.1 in
      let more = one_more e t in
      omega (arith, stays, older, more)
]

-- the counts do not fall
pub counts_rise : (t : List Event) → IsNonDecreasingBy (λ (n : ℕ). n) (letter_counts t)
counts_rise [] = λ i j d le less. absurd (omega (arith, less))
counts_rise (e ∷ t) =
    IsNonDecreasingBy-push (λ (n : ℕ). n) (letter_counts t) (min most_letters (length (letters (e ∷
    t)))) (counts_rise t) (last t)
  where
    last : (t' : List Event) → (d : ℕ) → 0 < length (letter_counts t')
        → get_or (letter_counts t') (length (letter_counts t') - 1) d
        ≤ min most_letters (length (letters (e ∷ t')))
    last [] d some = absurd (omega (arith, some))
    last (f ∷ t') d some =
        let count = newest_count t' (min most_letters (length (letters (f ∷ t')))) (length
        (letter_counts (f ∷ t')) - 1) d (let many = one_each (f ∷ t') in omega (arith, many)) in
        let more = one_more e (f ∷ t') in
        let rises = min_rises most_letters (length (letters (f ∷ t'))) (length (letters (e ∷ f ∷
        t'))) (omega (arith, more)) in
        rw count rises

-- the counts with one more event
pub counts_with : (events : List Event) (e : Event) (counts : List ℕ) (before count : ℕ)
    → counts ≡ letter_counts (reverse events) → before ≡ count_before counts (length events)
    → count ≡ min most_letters (before + length e.sent)
    → counts ++ count ∷ [] ≡ letter_counts (reverse (events ++ e ∷ []))
counts_with events e counts before count are before_is count_is =
    ap (λ (xs : List ℕ). xs ++ count ∷ []) are
    ∙ ap (λ (n : ℕ). letter_counts (reverse events) ++ n ∷ []) newest
    ∙ ap letter_counts (sym (reverse-append events (e ∷ [])))
  where
    L : ℕ
    L = length (letters (reverse events))

    is : before ≡ min most_letters L
    is =
        before_is
        ∙ ap (λ (xs : List ℕ). count_before xs (length events)) are
        ∙ ap (count_before (letter_counts (reverse events))) (sym (length-reverse events))
        ∙ last_count (reverse events)

    newest : count ≡ min most_letters (length (letters (e ∷ reverse events)))
    newest =
        count_is
        ∙ ap (λ (n : ℕ). min most_letters (n + length e.sent)) is
        ∙ min_once most_letters L (length e.sent)
        ∙ ap (min most_letters) (sym (one_more e (reverse events)))

pub as_many : (events : List Event) (counts : List ℕ) → counts ≡ letter_counts (reverse events)
    → length counts ≡ length events
as_many events counts are =
    ap (λ (xs : List ℕ). length xs) are ∙ one_each (reverse events) ∙ length-reverse events
