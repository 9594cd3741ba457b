-- What a node does with a letter that it took, and what its next event may be.
use Rattle.std.specs.Prelude.{◌≡◌, ◌<◌, ◌≤◌, ℕ, List, [], ◌∷◌, ◌++◌, length, Option, Some, None, Result, Ok, Err, IfSome, slice_get}
use Rattle.cam_base.specs.Causes.{Rose}
use Rattle.cam_journal.specs.declared.entry.SentLetter.{SentLetter}
use Rattle.cam_journal.specs.declared.entry.NumberedEvent.{NumberedEvent}
use Rattle.cam_journal.specs.declared.input.CoreInput.{CoreInput}
use Rattle.cam_journal.specs.declared.input.CoreInput.TheVariants.{Letter, Drive}
use Rattle.cam_journal.specs.declared.input.CoreFault.{CoreFault}
use Rattle.cam_journal.specs.declared.input.CoreFault.TheVariants.{DiskFault, NoMemory}
use Rattle.cam_journal.specs.Trace.{EventLaw, Receives}

module _ {L : Type 0} where
  -- the letter that an event received: the taken one, where it names a letter
  abbrev pub received_of : Option (ℕ × ℕ) → Option (SentLetter L) → Option (SentLetter L)
  received_of None taken = None
  received_of (Some name) taken = taken

  -- the taken letter that is left after an event: none, where the event used it
  abbrev pub left_of : Option (ℕ × ℕ) → Option (SentLetter L) → Option (SentLetter L)
  left_of None taken = taken
  left_of (Some name) taken = None

  -- the letter of an input
  abbrev pub letter_in : CoreInput L → Option (SentLetter L)
  letter_in (Letter number place letter) = Some (record { number = number; place = place; letter = letter })
  letter_in Drive = None

module _ {E L : Type 0} where
  -- An event may come next: it names the taken letter or none, and is lawful after the history and what it received.
  pub record IsNext (names : E → Option (ℕ × ℕ)) (lawful : EventLaw E L) (node : ℕ) (history : List (NumberedEvent E L))
      (taken : Option (SentLetter L)) (event : E) : Type 0 where
    pub named : Receives (names event) (received_of (names event) taken)
    pub allowed : lawful node history (received_of (names event) taken) event

  -- The letter was sent, at its place, by an event that was lawful for some node.
  pub record IsFromLawful (sends : E → List L) (lawful : EventLaw E L) (sent : SentLetter L) : Type 0 where
    pub node : ℕ
    pub history : List (NumberedEvent E L)
    pub received : Option (SentLetter L)
    pub event : E
    pub allowed : lawful node history received event
    pub letter : slice_get (sends event) sent.place ≡ Some sent.letter

  -- the entry of an event, under a number
  abbrev pub entry : (E → Option (ℕ × ℕ)) → ℕ → Option (SentLetter L) → E → NumberedEvent E L
  entry names number taken event = record { number = number; event = event; received = received_of (names event) taken }

-- A core may step: it is the replay of a history with room for one more event, and the letter was sent to its node by a lawful event.
pub record CanStep {S E L : Type 0} (is_replay : S → ℕ → List (NumberedEvent E L) → Type 0) (sends : E → List L) (goes_to : L → ℕ)
    (lawful : EventLaw E L) (core : S) (input : CoreInput L) : Type 0 where
  pub node : ℕ
  pub history : List (NumberedEvent E L)
  pub replay : is_replay core node history
  pub room : length history < 500000000
  pub letter : IfSome (letter_in input) (λ sent. (goes_to sent.letter ≡ node) × IsFromLawful sends lawful sent)

-- which event answers an input of a node, after its history
abbrev pub AnswerLaw : Type 0 → Type 0 → Type 1
AnswerLaw E L = ℕ → List (NumberedEvent E L) → CoreInput L → E → Type 0

module _ {S E L : Type 0} (is_replay : S → ℕ → List (NumberedEvent E L) → Type 0)
    (names : E → Option (ℕ × ℕ)) (goes_to : L → ℕ) (lawful : EventLaw E L)
    (answers : AnswerLaw E L) where
  -- After a step the core is the replay of the history with the event that it made, under whatever
  -- number; that event answers the input and may come next. Where it made none, it is the replay of
  -- the old history.
  abbrev pub Steps : ℕ → List (NumberedEvent E L) → CoreInput L → S → Result (Option E) CoreFault
      → Type 0
  Steps node history input after (Ok None) = is_replay after node history
  Steps node history input after (Ok (Some event)) =
      answers node history input event
      × IsNext names lawful node history (letter_in input) event
      × ((number : ℕ)
      → is_replay after node (history ++ entry names number (letter_in input) event ∷ []))
  Steps node history input after (Err fault) = is_replay after node history

  -- so for each history with room of which it was the replay, where the letter was sent to its node
  abbrev pub IsStep : S → CoreInput L → S → Result (Option E) CoreFault → Type 0
  IsStep before input after result =
      (node : ℕ) (history : List (NumberedEvent E L)) → is_replay before node history
      → length history < 500000000
      → IfSome (letter_in input) (λ sent. goes_to sent.letter ≡ node)
      → Steps node history input after result

-- The count of faults never falls, and a disk fault comes only if it rose.
abbrev pub FaultsWithCause : {E : Type 0} → ℕ → ℕ → Result E CoreFault → Type 0
FaultsWithCause before now (Ok made) = before ≤ now
FaultsWithCause before now (Err DiskFault) = (before ≤ now) × Rose before now
FaultsWithCause before now (Err NoMemory) = before ≤ now
