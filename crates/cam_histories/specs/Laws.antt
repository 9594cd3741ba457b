-- What each run gives of its nodes: the history of each node is lawful, each letter that was sent may be put to its receiver whenever it comes,
-- and an input that may come in the run may be put to its node.
use Rattle.std.specs.Prelude.{◌≡◌, ℕ, Bool, false, List, map, Some}
use Rattle.cam_type.specs.declared.ObjectDecl.{ObjectDecl}
use Rattle.cam_know.specs.Known.{nothing}
use Rattle.cam_know.specs.Order.{told_in_order}
use Rattle.cam_event.specs.declared.LetterId.{LetterId}
use Rattle.cam_event.specs.declared.Event.{Event}
use Rattle.cam_event.specs.Inputs.{Input, Mail, letter_at, mail_got, node_of, got_of}
use Rattle.cam_event.specs.Pasts.{last_of, holds}
use Rattle.cam_event.specs.ByKnowledge.{held_sight, node_step}
use Rattle.cam_event.specs.Loads.{Load}
use Rattle.cam_event.specs.ByDeltas.{Received, as_carried, of_node, received_of, load_by, load_at}
use Rattle.cam_event.specs.ByPast.{next}
use Rattle.cam_event.specs.Readings.{by_whole_letters}
use Rattle.cam_event.specs.Runs.{IsNode, MayCome, IsNext, IsRun}
use Rattle.cam_event.specs.Taken.{IsRunTaking}
use Rattle.cam_node.specs.Lawful.{IsLetter, MayBePut, IsLawful}
use Rattle.cam_node.specs.Halting.{IsThrough, IsEnded}

-- a node's own events with the letters that they received and what those letters carried, the newest first
abbrev pub history_of : List ObjectDecl → List Event → ℕ → List Received
history_of objects t s = of_node (received_of objects t) s

-- what comes with the letter that an input hands over
abbrev pub load_of_input : List ObjectDecl → List Event → Input → Load
load_of_input objects t input = load_by objects (received_of objects t) (got_of input) (mail_got t (got_of input))

-- In a run the history of each node is lawful.
abbrev pub HistoriesAreLawful : Type 0
HistoriesAreLawful = (objects : List ObjectDecl) (t : List Event) (s : ℕ) → IsRun objects t → IsLawful objects s (history_of objects t s)

-- In a run in which nodes halt it goes through the halts where the node's last event was not a taken one,
abbrev pub HistoriesGoThrough : Type 0
HistoriesGoThrough =
    (objects : List ObjectDecl) (taken : ℕ → Bool) (t : List Event) (s : ℕ) → IsRunTaking objects taken t → holds taken (last_of t s) ≡ false
    → IsThrough objects s (history_of objects t s)

-- and in each case it is that of a node that may be halted.
abbrev pub HistoriesMayEnd : Type 0
HistoriesMayEnd =
    (objects : List ObjectDecl) (taken : ℕ → Bool) (t : List Event) (s : ℕ) → IsRunTaking objects taken t → IsEnded objects s (history_of objects t s)

-- Each letter of a run may be put to the node to which it was sent, with what it carries: late, again and in another order too.
abbrev pub LettersMayBePut : Type 0
LettersMayBePut =
    (objects : List ObjectDecl) (t : List Event) (letter : LetterId) (mail : Mail) → IsRun objects t → letter_at t letter ≡ Some mail
    → IsLetter objects mail.to mail (load_at objects t letter)

-- The same of runs in which nodes halt,
abbrev pub HaltedLettersMayBePut : Type 0
HaltedLettersMayBePut =
    (objects : List ObjectDecl) (taken : ℕ → Bool) (t : List Event) (letter : LetterId) (mail : Mail) → IsRunTaking objects taken t → letter_at t letter ≡ Some mail
    → IsLetter objects mail.to mail (load_at objects t letter)

-- and of letters that carry all that their senders held.
abbrev pub WholeLettersMayBePut : Type 0
WholeLettersMayBePut =
    (objects : List ObjectDecl) (taken : ℕ → Bool) (t : List Event) (letter : LetterId) (mail : Mail) → IsRunTaking objects taken t → letter_at t letter ≡ Some mail
    → IsLetter objects mail.to mail ((by_whole_letters objects).carried t letter)

-- An input that may come in a run may be put to its node, which goes by its own history.
abbrev pub MayPut : List ObjectDecl → List Event → Input → Type 0
MayPut objects t input =
    MayBePut objects (node_of t input) (held_sight objects (node_of t input) (map as_carried (history_of objects t (node_of t input))) nothing) input
    (mail_got t (got_of input)) (load_of_input objects t input)

abbrev pub InputsMayBePut : Type 0
InputsMayBePut = (objects : List ObjectDecl) (t : List Event) (input : Input) → IsRun objects t → MayCome objects t input → MayPut objects t input

abbrev pub HaltedInputsMayBePut : Type 0
HaltedInputsMayBePut =
    (objects : List ObjectDecl) (taken : ℕ → Bool) (t : List Event) (input : Input) → IsRunTaking objects taken t → MayCome objects t input → MayPut objects t input

-- The event that comes next in the run is the step of the node after that history.
abbrev pub StepsAreNodes : Type 0
StepsAreNodes =
    (objects : List ObjectDecl) (taken : ℕ → Bool) (t : List Event) (input : Input) → IsRunTaking objects taken t → MayCome objects t input
    → next objects t input
    ≡ node_step objects (node_of t input) (map as_carried (history_of objects t (node_of t input))) input (mail_got t (got_of input)) (told_in_order (load_of_input objects t input).know)

-- And back: an input that may be put to one of the eight nodes may come in the run, and the step of the node for it may come next. So a trace
-- that is made of steps of its nodes is a run.
abbrev pub PutsMayCome : Type 0
PutsMayCome =
    (objects : List ObjectDecl) (taken : ℕ → Bool) (t : List Event) (input : Input) → IsRunTaking objects taken t → IsNode (node_of t input) → MayPut objects t input
    → MayCome objects t input

abbrev pub NodesMakeRuns : Type 0
NodesMakeRuns =
    (objects : List ObjectDecl) (taken : ℕ → Bool) (t : List Event) (input : Input) (e : Event) → IsRunTaking objects taken t → IsNode (node_of t input) → MayPut objects t input
    → e ≡ node_step objects (node_of t input) (map as_carried (history_of objects t (node_of t input))) input (mail_got t (got_of input)) (told_in_order (load_of_input objects t input).know)
    → IsNext objects t e
