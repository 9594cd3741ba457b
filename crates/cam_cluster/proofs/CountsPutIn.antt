-- The counts of letters where an event is put in that sent none.
use Rattle.std.proofs.Common.{◌≡◌, ℕ, zero, suc, ◌+◌, ◌≤◌, ◌<◌, List, [], ◌∷◌, ◌++◌}
use Rattle.std.proofs.Common.{get_or, length, drop, take, inl, inr, refl, sym, ap, ◌∙◌, arith}
use Rattle.std.specs.Prelude.{map, min, reverse}
use Rattle.std.specs.List.{insert}
use Rattle.std.proofs.lemmas.List.{length-reverse, length-take-le, map-append, reverse-append}
use Rattle.std.proofs.lemmas.List.{take-append-drop, take_all}
use Rattle.std.proofs.lemmas.Bool.Decides.{leb_tells}
use Rattle.std.proofs.lemmas.Grind.{common_steps}
use Rattle.std.proofs.Math.ListN.{drop_of_length-le}
use Rattle.cam_event.specs.declared.Event.{Event}
use Rattle.cam_runs.specs.Running.{letters}
use Rattle.cam_cluster.specs.LetterCounts.{count_before, letter_counts, most_letters}
use Rattle.cam_cluster.specs.OpenHalts.{put_in_at, with_letter_renumbered}
use Rattle.cam_cluster.proofs.LetterCounts.{last_count, one_each, one_more}

assoc : {T : Type 0} (xs ys zs : List T) → (xs ++ ys) ++ zs ≡ xs ++ (ys ++ zs)
assoc [] ys zs = refl
assoc (x ∷ xs) ys zs = ap (λ us. x ∷ us) (assoc xs ys zs)

module _ (f : Event → Event) (same : (x : Event) → (f x).sent ≡ x.sent) (e : Event)
    (mute : e.sent ≡ []) (before : List Event) where
  -- as many letters were sent
  letters_stay : (behind : List Event)
      → length (letters (map f behind ++ e ∷ before)) ≡ length (letters (behind ++ before))
  letters_stay [] =
      one_more e before ∙ ap (λ xs. length (letters before) + length xs) mute ∙ omega arith
  letters_stay (b ∷ behind) =
      one_more (f b) (map f behind ++ e ∷ before)
      ∙ ap (λ xs. length (letters (map f behind ++ e ∷ before)) + length xs) (same b)
      ∙ ap (λ n. n + length b.sent) (letters_stay behind)
      ∙ sym (one_more b (behind ++ before))

  abbrev here : ℕ
  here = min most_letters (length (letters before))

  -- what the counts have after the place
  abbrev pub counts_behind : List Event → List ℕ
  counts_behind [] = []
  counts_behind (b ∷ behind) =
      counts_behind behind ++ min most_letters (length (letters (b ∷ behind ++ before))) ∷ []

  counts_are : (behind : List Event)
      → letter_counts (behind ++ before) ≡ letter_counts before ++ counts_behind behind
  counts_are [] = sym (nil (letter_counts before))
    where
      nil : (xs : List ℕ) → xs ++ [] ≡ xs
      nil [] = refl
      nil (x ∷ xs) = ap (λ ys. x ∷ ys) (nil xs)
  counts_are (b ∷ behind) =
      ap (λ xs. xs ++ min most_letters (length (letters (b ∷ behind ++ before))) ∷ [])
      (counts_are behind)
      ∙ assoc (letter_counts before) (counts_behind behind)
      (min most_letters (length (letters (b ∷ behind ++ before))) ∷ [])

  counts_put_in : (behind : List Event)
      → letter_counts (map f behind ++ e ∷ before)
      ≡ letter_counts before ++ here ∷ counts_behind behind
  counts_put_in [] =
      ap (λ n. letter_counts before ++ min most_letters n ∷ [])
      (one_more e before ∙ ap (λ xs. length (letters before) + length xs) mute ∙ omega arith)
  counts_put_in (b ∷ behind) =
      ap (λ xs. xs ++ min most_letters (length (letters (f b ∷ map f behind ++ e ∷ before))) ∷ [])
      (counts_put_in behind)
      ∙ ap (λ n. (letter_counts before ++ here ∷ counts_behind behind) ++ min most_letters n ∷ [])
      (letters_stay (b ∷ behind))
      ∙ assoc (letter_counts before) (here ∷ counts_behind behind)
      (min most_letters (length (letters (b ∷ behind ++ before))) ∷ [])

  -- the count that is put in
  count_here : (behind : List Event) (p : ℕ) → p ≡ length before
      → count_before (letter_counts (behind ++ before)) p ≡ here
  count_here behind p is =
      ap (λ n. count_before (letter_counts (behind ++ before)) n) is
      ∙ ap (λ xs. count_before xs (length before)) (counts_are behind)
      ∙ front (length before) (omega arith)
      ∙ last_count before
    where
      front : (k : ℕ) → k ≤ length before
          → count_before (letter_counts before ++ counts_behind behind) k
          ≡ count_before (letter_counts before) k
      front zero low = refl
      front (suc k) low =
          there (letter_counts before) (counts_behind behind) k
          (let many = one_each before in omega (arith, many, low))
        where
          there : (xs ys : List ℕ) (k : ℕ) → k < length xs → get_or (xs ++ ys) k 0 ≡ get_or xs k 0
          there [] ys k less = absurd (omega (arith, less))
          there (x ∷ xs) ys zero less = refl
          there (x ∷ xs) ys (suc k) less = there xs ys k (omega (arith, less))

  pub with_count : (behind : List Event) (p : ℕ) → p ≡ length before
      → insert (letter_counts (behind ++ before)) p
      (count_before (letter_counts (behind ++ before)) p)
      ≡ letter_counts (map f behind ++ e ∷ before)
  with_count behind p is =
      ap (insert (letter_counts (behind ++ before)) p) (count_here behind p is)
      ∙ ap (λ xs. insert xs p here) (counts_are behind)
      ∙ seam (letter_counts before) (counts_behind behind) p (is ∙ sym (one_each before))
      ∙ sym (counts_put_in behind)
    where
      seam : (xs ys : List ℕ) (k : ℕ) → k ≡ length xs → insert (xs ++ ys) k here ≡ xs ++ here ∷ ys
      seam [] ys zero is = refl
      seam [] ys (suc k) is = absurd (omega (arith, is))
      seam (x ∷ xs) ys zero is = absurd (omega (arith, is))
      seam (x ∷ xs) ys (suc k) is = ap (λ us. x ∷ us) (seam xs ys k (omega (arith, is)))

pub newest : (e : Event) (es : List Event) → reverse (e ∷ es) ≡ reverse es ++ e ∷ []
newest e es = reverse-append (e ∷ []) es

pub reversed_map : (f : Event → Event) (es : List Event) → reverse (map f es) ≡ map f (reverse es)
reversed_map f [] = refl
reversed_map f (e ∷ es) =
    newest (f e) (map f es)
    ∙ ap (λ us. us ++ f e ∷ []) (reversed_map f es)
    ∙ sym (map-append f (reverse es) (e ∷ []))
    ∙ ap (map f) (sym (newest e es))

-- the counts of the events with one put in
pub counts_inserted : (place p : ℕ) (e : Event) (events now : List Event) (counts : List ℕ)
    → counts ≡ letter_counts (reverse events) → e.sent ≡ [] → p ≤ length events
    → now ≡ take p events ++ e ∷ map (with_letter_renumbered place) (drop p events)
    → insert counts p (count_before counts p) ≡ letter_counts (reverse now)
counts_inserted place p e events now counts are mute low is =
    ap (λ xs. insert xs p (count_before xs p)) (are ∙ ap letter_counts parts)
    ∙ with_count f (λ x. refl) e mute before behind p
    (sym (length-take-le p events low) ∙ sym (length-reverse (take p events)))
    ∙ ap letter_counts (sym put_in)
  where
    f : Event → Event
    f = with_letter_renumbered place

    before : List Event
    before = reverse (take p events)

    behind : List Event
    behind = reverse (drop p events)

    parts : reverse events ≡ behind ++ before
    parts =
        ap (λ es. reverse es) (sym (take-append-drop p events))
        ∙ reverse-append (take p events) (drop p events)

    put_in : reverse now ≡ map f behind ++ e ∷ before
    put_in =
        ap (λ es. reverse es) is
        ∙ reverse-append (take p events) (e ∷ map f (drop p events))
        ∙ ap (λ us. us ++ before)
        (newest e (map f (drop p events))
        ∙ ap (λ us. us ++ e ∷ []) (reversed_map f (drop p events)))
        ∙ assoc (map f behind) (e ∷ []) before

-- The event is put in after those that stay.
pub put_behind : (p : ℕ) (e : Event) (events now : List Event) → p ≤ length events
    → insert (take p events ++ now) p e ≡ take p events ++ e ∷ now
put_behind zero e events now low = refl
put_behind (suc p) e [] now low = absurd (omega (arith, low))
put_behind (suc p) e (x ∷ events) now low =
    ap (λ us. x ∷ us) (put_behind p e events now (omega (arith, low)))

-- A place after all events is the last.
pub put_at_last : (place p : ℕ) (e : Event) (events : List Event) → p ≡ min place (length events)
    → take p events ++ e ∷ map (with_letter_renumbered place) (drop p events)
    ≡ put_in_at place e events
put_at_last place p e events is = elim (leb_tells place (length events)) [
  | inl at ↦
      let low = at.1 in
      ap (λ n. take n events ++ e ∷ map (with_letter_renumbered place) (drop n events))
      (is ∙ grind (arith, common_steps, low))
  | inr at ↦
      let past = at.1 in
      let most : p ≡ length events = is ∙ grind (arith, common_steps, past) in
      ap (λ es. es ++ e ∷ map (with_letter_renumbered place) (drop p events))
      (take_all p events (omega (arith, most)) ∙ sym (take_all place events (omega (arith, past))))
      ∙ ap (λ es. take place events ++ e ∷ map (with_letter_renumbered place) es)
      (drop_of_length-le events (omega (arith, most))
      ∙ sym (drop_of_length-le events (omega (arith, past))))
]
