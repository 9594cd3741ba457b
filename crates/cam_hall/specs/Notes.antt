-- Notes of the letters of an event: each letter as often as it is copied.
use Rattle.std.specs.Prelude.{◌≡◌, ◌+◌, ◌==◌, if◌then◌else◌, ℕ, All, Bool, true, false, List, [], ◌∷◌, ◌++◌, Some, Result, Ok, Err, replicate, slice_get}
use Rattle.atomic_table.specs.Seated.{TableId}
use Rattle.cam_journal.specs.declared.entry.NumberedEvent.{NumberedEvent}
use Rattle.cam_journal.specs.Seats.{Mention}
use Rattle.cam_hall.specs.declared.turned.TurnedOf.{TurnedOf}
use Rattle.cam_hall.specs.declared.turned.TurnedOf.TheVariants.{Did, Nothing, Full}
use Rattle.cam_hall.specs.declared.turned.HallFault.{HallFault}

-- a list from which some elements were left out
pub data IsThinned {X : Type 0} : List X → List X → Type 0 where
  none : IsThinned [] []
  kept : {x : X} {xs ys : List X} → IsThinned xs ys → IsThinned (x ∷ xs) (x ∷ ys)
  left_out : {x : X} {xs ys : List X} → IsThinned xs ys → IsThinned xs (x ∷ ys)

-- what was made is the whole; where want of memory cut it short, some of it is left out
abbrev pub IsMade : {X : Type 0} → Bool → List X → List X → Type 0
IsMade false made whole = made ≡ whole
IsMade true made whole = IsThinned made whole

-- the letters of the event with this number
abbrev pub letters_of : {E L : Type 0} → (E → List L) → List (NumberedEvent E L) → ℕ → List L
letters_of sends [] number = []
letters_of sends (entry ∷ history) number =
    if entry.number == number then sends entry.event else letters_of sends history number

module _ {L : Type 0} (goes_to copied : L → ℕ) (journal : TableId) where
  -- a note of the letter at a place, with the node to which it goes
  abbrev pub note_of : ℕ → ℕ → L → ℕ × Mention L
  note_of number place letter = (
    goes_to letter,
    record {
      journal = journal;
      sent = record { number = number; place = place; letter = letter };
    },
  )

  -- notes of it, as often as it is copied
  abbrev pub notes_of : ℕ → ℕ → L → List (ℕ × Mention L)
  notes_of number place letter = replicate (copied letter) (note_of number place letter)

  -- notes of letters of an event, in order, which stand from this place on
  abbrev pub all_notes : ℕ → ℕ → List L → List (ℕ × Mention L)
  all_notes number place [] = []
  all_notes number place (letter ∷ letters) =
      notes_of number place letter ++ all_notes number (place + 1) letters

  -- The notes are those of the event's letters, all of them or, where it was cut short, some.
  abbrev pub AreNotes : ℕ → List L → Bool → List (ℕ × Mention L) → Type 0
  AreNotes number letters short notes = IsMade short notes (all_notes number 0 letters)

-- To the notes these were added, of the letter at a place, all that it has or some.
pub record IsAdded {L : Type 0} (goes_to copied : L → ℕ) (journal : TableId) (number place : ℕ)
    (letters : List L) (short : Bool) (old new : List (ℕ × Mention L)) : Type 0 where
  pub letter : L
  pub stands : slice_get letters place ≡ Some letter
  pub made : List (ℕ × Mention L)
  pub are : IsMade short made (notes_of goes_to copied journal number place letter)
  pub more : new ≡ old ++ made

-- a value was added as often as this, or, where memory was short, less often
pub record IsPushed {X : Type 0} (times : ℕ) (short : Bool) (x : X) (old new : List X) : Type 0 where
  pub made : List X
  pub are : IsMade short made (replicate times x)
  pub more : new ≡ old ++ made

-- each note is of this journal, beside the node to which its letter goes
abbrev pub AreAddressed : {L : Type 0} → (L → ℕ) → TableId → List (ℕ × Mention L) → Type 0
AreAddressed goes_to journal notes =
    All (λ note. (note.1.journal ≡ journal) × (goes_to note.1.sent.letter ≡ note.0)) notes

-- the notes of a turn, if there are any, are addressed
abbrev pub HasAddressed : {L : Type 0} → (L → ℕ) → TableId
    → Result (TurnedOf (Mention L)) HallFault → Type 0
HasAddressed goes_to journal (Ok (Did number notes short)) = AreAddressed goes_to journal notes
HasAddressed goes_to journal (Ok Nothing) = Unit {0}
HasAddressed goes_to journal (Ok Full) = Unit {0}
HasAddressed goes_to journal (Err fault) = Unit {0}
