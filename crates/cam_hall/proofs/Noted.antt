-- Notes that were made of the letters of an event.
use Rattle.std.proofs.Common.{◌≡◌, ℕ, zero, suc, ◌+◌, ◌<◌, ◌==◌, Bool, true, false, ◌||◌, if◌then◌else◌, List, [], ◌∷◌, ◌++◌, length, take, get_or, refl, sym, ap, ◌∙◌, subst, arith, append_assoc}
use Rattle.std.specs.Prelude.{All, Option, Some, IsSome, slice_get, replicate}
use Rattle.std.proofs.lemmas.Bool.Decides.{nat_tests}
use Rattle.std.proofs.lemmas.Grind.{common_steps}
use Rattle.std.proofs.lemmas.List.{append-nil, take_more}
use Rattle.std.proofs.lemmas.List.Elements.{All-nil, All-cons, All-head, All-tail, All-append, All-replicate}
use Rattle.std.proofs.lemmas.Option.{slice_get_within, slice_get-get_or, get_or_from_slice_get}
use Rattle.cam_journal.proofs.Histories.{if_here, if_else}
use Rattle.atomic_table.specs.Seated.{TableId}
use Rattle.cam_journal.specs.declared.entry.NumberedEvent.{NumberedEvent}
use Rattle.cam_journal.specs.Seats.{Mention, letter_at, sent_as}
use Rattle.cam_hall.specs.Notes.{IsThinned, none, kept, left_out, IsMade, IsAdded, IsPushed, AreNotes, AreAddressed, all_notes, notes_of, note_of, letters_of}
use Rattle.cam_hall.proofs.Thinned.{thinned_nothing, made_thinned, made_append}

-- a place within a list has an element
pub some_within : {A : Type 0} (xs : List A) (k : ℕ) → k < length xs → IsSome (slice_get xs k)
some_within [] k within = absurd (omega arith)
some_within (x ∷ xs) zero within = refl
some_within (x ∷ xs) (suc k) within = some_within xs k (omega arith)

module _ {E L : Type 0} (sends : E → List L) where
  letter_here : (b : Bool) (letters rest : List L) (place : ℕ) (more : Option L)
      → more ≡ slice_get rest place
      → (if b then slice_get letters place else more)
      ≡ slice_get (if b then letters else rest) place
  letter_here true letters rest place more is = refl
  letter_here false letters rest place more is = is

  -- the letter at a place is that of the letters of the event
  pub letter_at_place : (history : List (NumberedEvent E L)) (number place : ℕ)
      → letter_at sends history number place
      ≡ slice_get (letters_of sends history number) place
  letter_at_place [] number place = refl
  letter_at_place (e ∷ history) number place =
      letter_here (e.number == number) (sends e.event) (letters_of sends history number) place
      (letter_at sends history number place) (letter_at_place history number place)

  -- an event under a number above the earlier ones is found by its number
  pub letters_new : (old : List (NumberedEvent E L)) (e : NumberedEvent E L) (number : ℕ)
      → e.number ≡ number → All (λ entry. entry.number < number) old
      → letters_of sends (old ++ e ∷ []) number ≡ sends e.event
  letters_new [] e number is above =
      if_here (e.number == number) (sends e.event) [] (grind (arith, nat_tests))
  letters_new (x ∷ old) e number is above =
      let IsBelow : NumberedEvent E L → Type 0 = λ entry. entry.number < number in
      let below : x.number < number = All-head IsBelow x old above in
      if_else (x.number == number) (sends x.event) (letters_of sends (old ++ e ∷ []) number)
      (grind (arith, nat_tests))
      ∙ letters_new old e number is (All-tail IsBelow x old above)

module _ {L : Type 0} (goes_to copied : L → ℕ) (journal : TableId) where
  abbrev all : ℕ → ℕ → List L → List (ℕ × Mention L)
  all number place letters = all_notes goes_to copied journal number place letters

  shift : (place : ℕ) (xs : List L) (x : L)
      → place + 1 + length xs ≡ place + length (x ∷ xs)
  shift place xs x = omega arith

  all_append : (number place : ℕ) (xs ys : List L)
      → all number place (xs ++ ys) ≡ all number place xs ++ all number (place + length xs) ys
  all_append number place [] ys = ap (λ (p : ℕ). all number p ys) (omega arith)
  all_append number place (x ∷ xs) ys =
      let first = notes_of goes_to copied journal number place x in
      let rest = all number (place + 1) xs in
      ap (λ (l : List (ℕ × Mention L)). first ++ l)
      (all_append number (place + 1) xs ys
      ∙ ap (λ (p : ℕ). rest ++ all number p ys) (shift place xs x))
      ∙ sym (append_assoc first rest (all number (place + length (x ∷ xs)) ys))

  -- notes of the letters up to a place, with those of the letter there
  pub notes_more : (number place : ℕ) (letters : List L) (short dropped : Bool)
      (old new : List (ℕ × Mention L))
      → AreNotes goes_to copied journal number (take place letters) short old
      → IsAdded goes_to copied journal number place letters dropped old new
      → AreNotes goes_to copied journal number (take (place + 1) letters) (short || dropped) new
  notes_more number place letters short dropped old new are added =
      let letter = added.letter in
      let before = take place letters in
      let here = notes_of goes_to copied journal number place letter in
      let within : place < length letters =
      slice_get_within letters place letter added.stands in
      let front : take (place + 1) letters ≡ before ++ letter ∷ [] =
      take_more letters place letter within
      ∙ ap (λ (l : L). before ++ l ∷ [])
      (get_or_from_slice_get letters place letter letter added.stands) in
      let long : length (take place letters) ≡ place = grind (arith, common_steps) in
      let from_zero : 0 + length (take place letters) ≡ place = omega (arith, long) in
      let whole : all number 0 (take (place + 1) letters) ≡ all number 0 before ++ here =
      ap (all number 0) front
      ∙ all_append number 0 before (letter ∷ [])
      ∙ ap (λ (p : ℕ). all number 0 before ++ all number p (letter ∷ [])) from_zero
      ∙ ap (λ (l : List (ℕ × Mention L)). all number 0 before ++ l) (append-nil here) in
      let both =
      made_append short dropped old (all number 0 before) added.made here are added.are in
      subst
      (λ n. IsMade (short || dropped) n (all number 0 (take (place + 1) letters)))
      (sym added.more)
      (subst (λ w. IsMade (short || dropped) (old ++ added.made) w) (sym whole) both)

  abbrev mention : TableId → ℕ → ℕ → L → Mention L
  mention own number place letter = record { journal = own; sent = sent_as number place letter }

  mention_is : (number place : ℕ) (note : Mention L) → note.journal ≡ journal
      → note.sent.number ≡ number → note.sent.place ≡ place
      → note ≡ mention journal number place note.sent.letter
  mention_is number place note own numbered placed =
      let letter = note.sent.letter in
      subst (λ (j : TableId). note ≡ mention j number place letter) own
      (subst (λ (n : ℕ). note ≡ mention note.journal n place letter) numbered
      (subst (λ (p : ℕ). note ≡ mention note.journal note.sent.number p letter) placed refl))

  -- A note was added as often as the letter is copied.
  pub added : (number place times : ℕ) (letters : List L) (short : Bool)
      (old new : List (ℕ × Mention L)) (note : Mention L) (to : ℕ)
      → note.journal ≡ journal → note.sent.number ≡ number → note.sent.place ≡ place
      → slice_get letters place ≡ Some note.sent.letter
      → to ≡ goes_to note.sent.letter → times ≡ copied note.sent.letter
      → IsPushed times short (to, note) old new
      → IsAdded goes_to copied journal number place letters short old new
  added number place times letters short old new note to own numbered placed stands going often
      pushed =
      let letter = note.sent.letter in
      let same : (to, note) ≡ note_of goes_to copied journal number place letter =
      subst
      (λ (t : ℕ). ◌≡◌ {A = ℕ × Mention L} (to, note) (t, mention journal number place letter))
      going
      (ap (λ (n : Mention L). (to, n)) (mention_is number place note own numbered placed)) in
      record {
        letter = letter;
        stands = stands;
        made = pushed.made;
        are =
            subst (IsMade short pushed.made)
            (ap (λ (n : ℕ). replicate n (to, note)) often
            ∙ ap (replicate (copied letter)) same)
            pushed.are;
        more = pushed.more;
      }

  -- a letter that is not copied has no notes
  pub added_nothing : (number place times : ℕ) (letters : List L)
      (old : List (ℕ × Mention L)) (letter : L)
      → slice_get letters place ≡ Some letter → times ≡ copied letter → times ≡ 0
      → IsAdded goes_to copied journal number place letters false old old
  added_nothing number place times letters old letter stands often zero_times = record {
    letter = letter;
    stands = stands;
    made = [];
    are =
        ap (λ (n : ℕ). replicate n (note_of goes_to copied journal number place letter))
        (sym zero_times ∙ often);
    more = sym (append-nil old);
  }

  -- there was no memory for a note
  pub added_none : (number place : ℕ) (letters : List L) (old : List (ℕ × Mention L))
      → place < length letters
      → IsAdded goes_to copied journal number place letters true old old
  added_none number place (x ∷ xs) old within =
      let letter = get_or (x ∷ xs) place x in
      record {
        letter = letter;
        stands = slice_get-get_or (x ∷ xs) place x within;
        made = [];
        are = thinned_nothing (notes_of goes_to copied journal number place letter);
        more = sym (append-nil old);
      }
  added_none number place [] old within = absurd (omega arith)

  -- Each note is addressed.
  abbrev IsAddressed : ℕ × Mention L → Type 0
  IsAddressed note = (note.1.journal ≡ journal) × (goes_to note.1.sent.letter ≡ note.0)

  all_addressed : (number place : ℕ) (letters : List L)
      → All IsAddressed (all number place letters)
  all_addressed number place [] = All-nil IsAddressed
  all_addressed number place (x ∷ xs) =
      All-append IsAddressed (notes_of goes_to copied journal number place x)
      (all number (place + 1) xs)
      (All-replicate IsAddressed (copied x) (note_of goes_to copied journal number place x)
      (refl, refl))
      (all_addressed number (place + 1) xs)

  thinned_addressed : {xs ys : List (ℕ × Mention L)} → IsThinned xs ys → All IsAddressed ys
      → All IsAddressed xs
  thinned_addressed none are = are
  thinned_addressed (kept {x} {xs} {ys} rest) are =
      All-cons IsAddressed x xs (All-head IsAddressed x ys are)
      (thinned_addressed rest (All-tail IsAddressed x ys are))
  thinned_addressed (left_out {x} {xs} {ys} rest) are =
      thinned_addressed rest (All-tail IsAddressed x ys are)

  pub notes_addressed : (number : ℕ) (letters : List L) (short : Bool)
      (notes : List (ℕ × Mention L)) → AreNotes goes_to copied journal number letters short notes
      → AreAddressed goes_to journal notes
  notes_addressed number letters short notes are =
      thinned_addressed (made_thinned short notes (all number 0 letters) are)
      (all_addressed number 0 letters)
