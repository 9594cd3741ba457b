-- From one step of a core, recorded, to a turn with its notes.
use Rattle.std.proofs.Common.{◌≡◌, ℕ, Bool, List, length, Option, refl, sym, ap, ◌∙◌, subst}
use Rattle.std.specs.Prelude.{Result, Ok, Err}
use Rattle.atomic_table.specs.Seated.{TableId}
use Rattle.cam_journal.specs.declared.entry.NumberedEvent.{NumberedEvent}
use Rattle.cam_journal.specs.Seats.{Mention}
use Rattle.cam_journal.specs.Taking.{AnswerLaw, entry}
use Rattle.cam_journal.specs.Trace.{EventLaw}
use Rattle.cam_hall.specs.declared.item.ItemOf.{ItemOf}
use Rattle.cam_hall.specs.Advances.{IsStepped}
use Rattle.cam_hall.specs.Notes.{AreNotes, HasAddressed, letters_of}
use Rattle.cam_hall.specs.Turns.{HistoryAfter, IsDone, IsOneMore, taken_of}
use Rattle.cam_hall.specs.declared.turned.TurnedOf.{TurnedOf}
use Rattle.cam_hall.specs.declared.turned.TurnedOf.TheVariants.{Did, Nothing, Full}
use Rattle.cam_hall.specs.declared.turned.HallFault.{HallFault}
use Rattle.cam_hall.proofs.Noted.{letters_new, notes_addressed}

module _ {E L : Type 0} (names : E → Option (ℕ × ℕ)) (sends : E → List L) (lawful : EventLaw E L)
    (answers : AnswerLaw E L) where
  -- the letters of the new event are found by its number
  stepped_letters : (node : ℕ) (old new : List (NumberedEvent E L)) (item : ItemOf (Mention L))
      (number : ℕ) (event : E) → IsOneMore names lawful answers node old new item number event
      → letters_of sends new number ≡ sends event
  stepped_letters node old new item number event more =
      ap (λ (h : List (NumberedEvent E L)). letters_of sends h number) more.history
      ∙ letters_new sends old (entry names number (taken_of item) event) number refl more.above

  pub letters_count : (node : ℕ) (old new : List (NumberedEvent E L)) (item : ItemOf (Mention L))
      (number letters : ℕ)
      → IsStepped names sends lawful answers node old new item number letters
      → letters ≡ length (letters_of sends new number)
  letters_count node old new item number letters step =
      step.count
      ∙ ap length (sym (stepped_letters node old new item number step.event step.more))

  pub turned : (goes_to copied : L → ℕ) (journal : TableId) (node : ℕ)
      (old new : List (NumberedEvent E L)) (item : ItemOf (Mention L)) (number letters : ℕ)
      (short : Bool) (notes : List (ℕ × Mention L))
      → IsStepped names sends lawful answers node old new item number letters
      → AreNotes goes_to copied journal number (letters_of sends new number) short notes
      → IsDone names sends goes_to copied lawful answers journal node old new item number notes
      short
  turned goes_to copied journal node old new item number letters short notes step are = record {
    event = step.event;
    more = step.more;
    noted =
        subst (λ (l : List L). AreNotes goes_to copied journal number l short notes)
        (stepped_letters node old new item number step.event step.more) are;
  }

  -- the notes of a turn are addressed
  pub history_addressed : (goes_to copied : L → ℕ) (journal : TableId) (node : ℕ)
      (old new : List (NumberedEvent E L)) (item : ItemOf (Mention L))
      (answer : Result (TurnedOf (Mention L)) HallFault)
      → HistoryAfter names sends goes_to copied lawful answers journal node old new item answer
      → HasAddressed goes_to journal answer
  history_addressed goes_to copied journal node old new item (Ok (Did number notes short)) done =
      notes_addressed goes_to copied journal number (sends done.event) short notes done.noted
  history_addressed goes_to copied journal node old new item (Ok Nothing) done = tt
  history_addressed goes_to copied journal node old new item (Ok Full) done = tt
  history_addressed goes_to copied journal node old new item (Err fault) done = tt
