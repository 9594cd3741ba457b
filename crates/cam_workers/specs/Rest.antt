-- When a hall that was left is at rest: no core has anything to do by itself, or with a letter that
-- stands in one of the histories, unless its own history is full.
use Rattle.std.specs.Prelude.{◌≡◌, ◌⊎◌, ◌≤◌, ◌<◌, ◌+◌, ℕ, Bool, true, List, length, map, Option, Some, None, slice_get}
use Rattle.std.specs.List.{sum_by}
use Rattle.cam_journal.specs.declared.entry.NumberedEvent.{NumberedEvent}
use Rattle.cam_journal.specs.declared.entry.SentLetter.{SentLetter}
use Rattle.cam_journal.specs.declared.input.CoreInput.{CoreInput}
use Rattle.cam_journal.specs.declared.input.CoreInput.TheVariants.{Letter, Drive}
use Rattle.cam_journal.specs.Seats.{Sitting, letter_at}
use Rattle.cam_hall.specs.Turns.{most_events}
use Rattle.cam_hall.specs.Ending.{Left}

-- the cores and the histories of the nodes, in order
pub record Stood (S E L : Type 0) : Type 0 where
  pub cores : List S
  pub histories : List (List (NumberedEvent E L))

abbrev pub stood : {S E L : Type 0} → Left S E L → Stood S E L
stood {S} {E} {L} left = record {
  cores = left.cores;
  histories = map (λ (seat : Sitting E L). seat.history) left.seats;
}

-- how many events there are in all
abbrev pub events : {S E L : Type 0} → Stood S E L → ℕ
events {S} {E} {L} now = sum_by (λ (history : List (NumberedEvent E L)). length history) now.histories

-- The core at a place has nothing to do with an input, or its history is full.
abbrev pub IsDone : {S E L : Type 0} → (S → CoreInput L → Bool) → Stood S E L → ℕ → CoreInput L
    → Type 0
IsDone {S} {E} {L} is_idle now at input =
    (core : S) (history : List (NumberedEvent E L)) → slice_get now.cores at ≡ Some core
    → slice_get now.histories at ≡ Some history
    → (is_idle core input ≡ true) ⊎ (length history ≡ most_events)

-- one of the histories has a letter of this number and place
pub record HasSent {S E L : Type 0} (sends : E → List L) (now : Stood S E L) (number place : ℕ)
    (letter : L) : Type 0 where
  pub at : ℕ
  pub history : List (NumberedEvent E L)
  pub stands : slice_get now.histories at ≡ Some history
  pub is : letter_at sends history number place ≡ Some letter

-- The node at a place is done with a letter of this number and place that goes to it.
pub record IsDoneWith {S E L : Type 0} (sends : E → List L) (goes_to : L → ℕ)
    (is_idle : S → CoreInput L → Bool) (now : Stood S E L) (to number place : ℕ) : Type 0 where
  pub letter : L
  pub sent : HasSent sends now number place letter
  pub goes : goes_to letter ≡ to + 1
  pub done : IsDone is_idle now to (Letter number place letter)

-- The letter at a place of an event of a history, if it goes to one of the nodes: that node is done
-- with it.
abbrev pub IsHandedOver : {S E L : Type 0} → (E → List L) → (L → ℕ) → (S → CoreInput L → Bool)
    → Stood S E L → ℕ → ℕ → ℕ → Type 0
IsHandedOver {S} {E} {L} sends goes_to is_idle now at index place =
    (history : List (NumberedEvent E L)) (entry : NumberedEvent E L) (letter : L) (to : ℕ)
    → slice_get now.histories at ≡ Some history → slice_get history index ≡ Some entry
    → slice_get (sends entry.event) place ≡ Some letter → goes_to letter ≡ to + 1
    → to < 4 → IsDoneWith sends goes_to is_idle now to entry.number place

-- All letters of an event; and of a history, whose core has nothing to do by itself.
abbrev pub AreHandedOver : {S E L : Type 0} → (E → List L) → (L → ℕ) → (S → CoreInput L → Bool)
    → Stood S E L → ℕ → ℕ → Type 0
AreHandedOver sends goes_to is_idle now at index =
    (place : ℕ) → IsHandedOver sends goes_to is_idle now at index place

pub record IsNodeAtRest {S E L : Type 0} (sends : E → List L) (goes_to : L → ℕ)
    (is_idle : S → CoreInput L → Bool) (now : Stood S E L) (at : ℕ) : Type 0 where
  pub driven : IsDone is_idle now at Drive
  pub handed : (index : ℕ) → AreHandedOver sends goes_to is_idle now at index

-- So each of the four nodes.
abbrev pub IsAtRest : {S E L : Type 0} → (E → List L) → (L → ℕ) → (S → CoreInput L → Bool)
    → Stood S E L → Type 0
IsAtRest sends goes_to is_idle now = (at : ℕ) → at < 4 → IsNodeAtRest sends goes_to is_idle now at

-- From one time to another: no event is gone; and if none came, all is as it was, and this holds.
pub record HasPassed {S E L : Type 0} (Done : Stood S E L → Type 0) (old new : Stood S E L)
    : Type 0 where
  pub later : events old ≤ events new
  pub same : events new ≡ events old → new ≡ old
  pub done : events new ≡ events old → Done old

-- What was found at a place of an event of a history: a letter, with the number of the event; or
-- none, if there is none.
pub record IsSent {E L : Type 0} (sends : E → List L) (history : List (NumberedEvent E L))
    (index place : ℕ) (sent : SentLetter L) : Type 0 where
  pub place_is : sent.place ≡ place
  pub stands : letter_at sends history sent.number place ≡ Some sent.letter
  pub is :
      (entry : NumberedEvent E L) → slice_get history index ≡ Some entry
      → (entry.number ≡ sent.number) × (slice_get (sends entry.event) place ≡ Some sent.letter)

abbrev pub IsFound : {E L : Type 0} → (E → List L) → List (NumberedEvent E L) → ℕ → ℕ
    → Option (SentLetter L) → Type 0
IsFound {E} {L} sends history index place None =
    (entry : NumberedEvent E L) (letter : L) → slice_get history index ≡ Some entry
    → slice_get (sends entry.event) place ≡ Some letter → ⊥
IsFound sends history index place (Some sent) = IsSent sends history index place sent
