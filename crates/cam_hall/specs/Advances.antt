-- What one step of a core and its record do, before notes are made.
use Rattle.std.specs.Prelude.{◌≡◌, ℕ, Bool, false, List, [], length, Option, Some, None, Result, Ok, Err}
use Rattle.cam_journal.specs.declared.entry.SentLetter.{SentLetter}
use Rattle.cam_journal.specs.declared.entry.NumberedEvent.{NumberedEvent}
use Rattle.cam_journal.specs.declared.input.CoreInput.{CoreInput}
use Rattle.cam_journal.specs.Seats.{Sitting, Mention, with_taken}
use Rattle.cam_journal.specs.Taking.{AnswerLaw}
use Rattle.cam_journal.specs.Trace.{EventLaw}
use Rattle.cam_hall.specs.declared.advance.Advance.{Advance}
use Rattle.cam_hall.specs.declared.advance.Advance.TheVariants.{Made, Nothing, Full}
use Rattle.cam_hall.specs.declared.item.ItemOf.{ItemOf}
use Rattle.cam_hall.specs.declared.turned.TurnedOf.{TurnedOf}
use Rattle.cam_hall.specs.declared.turned.TurnedOf.TheVariants as turns
use Rattle.cam_hall.specs.declared.turned.HallFault.{HallFault}
use Rattle.cam_hall.specs.declared.turned.HallFault.TheVariants.{DiskFault, NoMemory}
use Rattle.cam_hall.specs.Turns.{Standing, Outcome, Made as DidMake, Idle, IsFull, Failed, Short, Ends, IsOneMore, core_input}

-- the seat once it took the letter of an item, if there is one
abbrev pub with_item : {E L : Type 0} → Option (SentLetter L) → Sitting E L → Sitting E L
with_item (Some sent) seat = with_taken sent seat
with_item None seat = seat

-- how it ended
abbrev pub ended : Result Advance HallFault → Outcome
ended (Ok (Made number letters)) = DidMake
ended (Ok Nothing) = Idle
ended (Ok Full) = IsFull
ended (Err DiskFault) = Failed
ended (Err NoMemory) = Short

-- what it comes to where no notes are made
abbrev pub without_notes : {N : Type 0} → Result Advance HallFault → Result (TurnedOf N) HallFault
without_notes (Ok (Made number letters)) = Ok (turns.Did number [] false)
without_notes (Ok Nothing) = Ok turns.Nothing
without_notes (Ok Full) = Ok turns.Full
without_notes (Err fault) = Err fault

module _ {E L : Type 0} (names : E → Option (ℕ × ℕ)) (sends : E → List L) (lawful : EventLaw E L)
    (answers : AnswerLaw E L) where
  -- one event more, with so many letters
  pub record IsStepped (node : ℕ) (old new : List (NumberedEvent E L)) (item : ItemOf (Mention L))
      (number letters : ℕ) : Type 0 where
    pub event : E
    pub more : IsOneMore names lawful answers node old new item number event
    pub count : letters ≡ length (sends event)

  abbrev pub HistoryThen : ℕ → List (NumberedEvent E L) → List (NumberedEvent E L)
      → ItemOf (Mention L) → Result Advance HallFault → Type 0
  HistoryThen node old new item (Ok (Made number letters)) =
      IsStepped node old new item number letters
  HistoryThen node old new item (Ok Nothing) = new ≡ old
  HistoryThen node old new item (Ok Full) = new ≡ old
  HistoryThen node old new item (Err fault) = new ≡ old

-- One step of a core, recorded.
pub record IsAdvance {S E L : Type 0} (faults : S → ℕ) (names : E → Option (ℕ × ℕ))
    (sends : E → List L) (lawful : EventLaw E L) (answers : AnswerLaw E L)
    (is_idle : S → CoreInput L → Bool) (old new : Standing S E L) (item : ItemOf (Mention L))
    (answer : Result Advance HallFault) : Type 0 where
  pub history :
      HistoryThen names sends lawful answers old.seat.node
      old.seat.history new.seat.history item answer
  pub ends : Ends faults is_idle old new (core_input item) (ended answer)
