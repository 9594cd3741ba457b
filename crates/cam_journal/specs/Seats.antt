-- What contracts see of a journal, of the seats of its nodes and of notes.
use Rattle.std.specs.Prelude.{◌≡◌, ◌<◌, ◌≤◌, ◌+◌, ◌-◌, ◌==◌, if◌then◌else◌, ℕ, List, [], ◌∷◌, ◌++◌, map, length, take, Option, Some, None, slice_get}
use Rattle.atomic_table.specs.Seated.{TableId}
use Rattle.cam_journal.specs.declared.entry.SentLetter.{SentLetter}
use Rattle.cam_journal.specs.declared.entry.NumberedEvent.{NumberedEvent}
use Rattle.cam_journal.specs.declared.view.SeatView.{SeatView}
use Rattle.cam_journal.specs.declared.view.SeatView.TheVariants.{Node}
use Rattle.cam_journal.specs.Taking.{left_of, entry}
use Rattle.cam_journal.specs.Trace.{EventLaw}

-- which journal it is, and how many nodes it has
pub record Opened : Type 0 where
  pub id : TableId
  pub nodes : ℕ

-- the seat of a node: its journal, its number, its history, the letter that it took and has not used, and for how many events it has room
pub record Sitting (E L : Type 0) : Type 0 where
  pub journal : TableId
  pub node : ℕ
  pub history : List (NumberedEvent E L)
  pub taken : Option (SentLetter L)
  pub spare : ℕ

-- a note: its journal, and the letter with the number of the event that sent it and its place
pub record Mention (L : Type 0) : Type 0 where
  pub journal : TableId
  pub sent : SentLetter L

-- a letter with the number of its event and its place
abbrev pub sent_as : {L : Type 0} → ℕ → ℕ → L → SentLetter L
sent_as number place letter = record { number = number; place = place; letter = letter }

module _ {E L : Type 0} where
  abbrev pub numbered : NumberedEvent E L → ℕ × E
  numbered entry = (entry.number, entry.event)

  abbrev pub node_in : SeatView E L → ℕ
  node_in (Node node history taken) = node
  node_in _ = 0

  abbrev pub history_in : SeatView E L → List (NumberedEvent E L)
  history_in (Node node history taken) = history
  history_in _ = []

  abbrev pub taken_in : SeatView E L → Option (SentLetter L)
  taken_in (Node node history taken) = taken
  taken_in _ = None

  abbrev pub sitting : TableId → ℕ → SeatView E L → Sitting E L
  sitting journal spare view =
      record { journal = journal; node = node_in view; history = history_in view; taken = taken_in view; spare = spare }

  -- each event of a history is lawful after those before it
  abbrev pub IsHistory : EventLaw E L → ℕ → List (NumberedEvent E L) → Type 0
  IsHistory lawful node history =
      (at : ℕ) (entry : NumberedEvent E L) → slice_get history at ≡ Some entry → lawful node (take at history) entry.received entry.event

  -- numbers rise within a history
  abbrev pub IsRising : List (NumberedEvent E L) → Type 0
  IsRising history =
      (at later : ℕ) (one other : NumberedEvent E L) → at < later → slice_get history at ≡ Some one → slice_get history later ≡ Some other
      → one.number < other.number

  -- a seat keeps the numbers and events of a lawful history
  abbrev pub IsSeat : EventLaw E L → List (ℕ × E) → SeatView E L → Type 0
  IsSeat lawful entries (Node node history taken) =
      (entries ≡ map numbered history) × (length history ≤ 500000000) × IsHistory lawful node history × IsRising history
  IsSeat lawful entries _ = ⊥

  -- the seat after an event under this number
  abbrev pub with_event : (E → Option (ℕ × ℕ)) → ℕ → E → Sitting E L → Sitting E L
  with_event names number event seat =
      record seat {
        history = seat.history ++ entry names number seat.taken event ∷ [];
        taken = left_of (names event) seat.taken;
        spare = seat.spare - 1;
      }

  -- the seats of a new journal: one for each node, in order, each with an empty history
  pub record AreNew (journal : TableId) (nodes : ℕ) (seats : List (Sitting E L)) : Type 0 where
    pub count : length seats ≡ nodes
    pub each : (at : ℕ) (seat : Sitting E L) → slice_get seats at ≡ Some seat → (seat.journal ≡ journal) × (seat.node ≡ at + 1)
        × (seat.history ≡ []) × (seat.taken ≡ None)

  -- the letter that the event with this number sent, at a place
  abbrev pub letter_at : (E → List L) → List (NumberedEvent E L) → ℕ → ℕ → Option L
  letter_at sends [] number place = None
  letter_at sends (entry ∷ history) number place =
      if entry.number == number then slice_get (sends entry.event) place else letter_at sends history number place

  -- the seat once it took a letter
  abbrev pub with_taken : SentLetter L → Sitting E L → Sitting E L
  with_taken sent seat = record seat { taken = Some sent }

-- the numbers of a list of events rise
abbrev pub AreRising : {E : Type 0} → List (ℕ × E) → Type 0
AreRising {E} entries =
    (at later : ℕ) (one other : ℕ × E) → at < later → slice_get entries at ≡ Some one → slice_get entries later ≡ Some other
    → one.0 < other.0
