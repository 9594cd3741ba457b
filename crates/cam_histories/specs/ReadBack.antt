-- What is read from the bytes of a letter of a run: that letter, but for the order of its outcomes,
-- which changes nothing.
use Rattle.std.specs.Prelude.{◌≡◌, ℕ, Bool, List, ◌∷◌, Option, Some}
use Rattle.cam_type.specs.declared.ObjectDecl.{ObjectDecl}
use Rattle.cam_know.specs.Invariant.{NoTwice}
use Rattle.cam_know.specs.Order.{told_in_order}
use Rattle.cam_event.specs.declared.LetterId.{LetterId}
use Rattle.cam_event.specs.declared.Event.{Event}
use Rattle.cam_event.specs.declared.Letter.{Letter}
use Rattle.cam_event.specs.Inputs.{Mail, letter_at}
use Rattle.cam_event.specs.Loads.{Load}
use Rattle.cam_event.specs.ByDeltas.{Received, load_at}
use Rattle.cam_event.specs.Taken.{IsRunTaking}
use Rattle.cam_comman.specs.Letters.{load_on}
use Rattle.cam_wire.specs.Laws.{IsSameLetter}
use Rattle.cam_node.specs.Calls.{mail_on}
use Rattle.cam_node.specs.Lawful.{IsLetter}
use Rattle.cam_node.specs.Log.{Logged, KeepsLog}
use Rattle.cam_node.specs.Represents.{Node, Represents}
use Rattle.cam_histories.specs.Flight.{IsSent}

-- Both say the same of lists, and what they tell is learnt alike.
pub record IsAsGood (one other : Load) : Type 0 where
  pub have : one.have ≡ other.have
  pub place : one.place ≡ other.place
  pub order : told_in_order one.know ≡ told_in_order other.know

-- The letter that was read is the one that was sent, as good as it was, and may be put to its
-- receiver.
pub record IsReadBack (objects : List ObjectDecl) (t : List Event) (id : LetterId) (mail : Mail)
    (found : Letter) : Type 0 where
  pub is_mail : mail_on found ≡ mail
  pub load : IsAsGood (load_on found) (load_at objects t id)
  pub may : IsLetter objects mail.to mail (load_on found)

abbrev pub LettersAreReadBack : Type 0
LettersAreReadBack =
    (objects : List ObjectDecl) (taken : ℕ → Bool) (t : List Event) (id : LetterId) (mail : Mail)
    (letter found : Letter)
    → IsRunTaking objects taken t → letter_at t id ≡ Some mail → IsSent objects t id letter
    → IsSameLetter found letter → NoTwice found.know.outcomes
    → IsReadBack objects t id mail found

-- What a letter does to a node does one that is as good.
abbrev pub received_with : Event → Option Mail → Load → Received
received_with event mail load = record { event = event; mail = mail; load = load }

abbrev pub NodesStandAsGood : Type 0
NodesStandAsGood =
    (objects : List ObjectDecl) (history : List Received) (event : Event) (mail : Option Mail)
    (one other : Load) (node : Node)
    → IsAsGood one other → Represents objects (received_with event mail one ∷ history) node
    → Represents objects (received_with event mail other ∷ history) node

abbrev pub LogsKeepAsGood : Type 0
LogsKeepAsGood =
    (objects : List ObjectDecl) (s : ℕ) (history : List Received) (event : Event)
    (mail : Option Mail) (one other : Load)
    (logged : Logged) → IsAsGood one other → KeepsLog objects s
    (received_with event mail one ∷ history) logged
    → KeepsLog objects s (received_with event mail other ∷ history) logged
