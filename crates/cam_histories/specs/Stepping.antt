-- One more step of a node in a run: the event is the run's next one, the node stands for what it
-- has done then, and no other node has done more than it had.
use Rattle.std.specs.Prelude.{◌≡◌, ℕ, Bool, List, ◌∷◌, map, Option, Some, None}
use Rattle.cam_type.specs.declared.ObjectDecl.{ObjectDecl}
use Rattle.cam_know.specs.Known.{nothing}
use Rattle.cam_event.specs.declared.Event.{Event}
use Rattle.cam_event.specs.declared.LetterId.{LetterId}
use Rattle.cam_event.specs.declared.Letter.{Letter}
use Rattle.cam_event.specs.Inputs.{Input, Receives, Restarts, Mail, letter_at, mail_got, node_of, got_of}
use Rattle.cam_event.specs.ByPast.{next}
use Rattle.cam_event.specs.ByKnowledge.{held_sight}
use Rattle.cam_event.specs.Loads.{Load, no_load}
use Rattle.cam_event.specs.ByDeltas.{as_carried}
use Rattle.cam_event.specs.Readings.{by_knowledge}
use Rattle.cam_event.specs.Runs.{MayCome}
use Rattle.cam_event.specs.Taken.{IsRunTaking}
use Rattle.cam_comman.specs.Letters.{load_on}
use Rattle.cam_node.specs.Calls.{mail_on}
use Rattle.cam_node.specs.Halting.{IsThrough, IsEnded, IsStepThrough}
use Rattle.cam_node.specs.Keeping.{IsLogOf, IsRestart}
use Rattle.cam_node.specs.Lawful.{MayBePut}
use Rattle.cam_node.specs.Log.{Logged}
use Rattle.cam_node.specs.Represents.{Node, Represents}
use Rattle.cam_histories.specs.Laws.{history_of, load_of_input}
use Rattle.cam_histories.specs.ReadBack.{IsAsGood, IsReadBack, received_with}

-- what is put to the node of an input: with the letter that the run sent, where it hands one over,
-- as good as it was
pub record IsPut (objects : List ObjectDecl) (t : List Event) (input : Input) (mail : Option Mail)
    (load : Load) : Type 0 where
  pub is_mail : mail ≡ mail_got t (got_of input)
  pub as_good : IsAsGood load (load_of_input objects t input)
  pub may : MayBePut objects (node_of t input)
      (held_sight objects (node_of t input) (map as_carried
      (history_of objects t (node_of t input))) nothing) input mail load

-- what the step leaves
pub record HasStepped (objects : List ObjectDecl) (t : List Event) (input : Input) (new : Node)
    (event : Event) : Type 0 where
  pub node : event.node ≡ node_of t input
  pub held : event ≡ (by_knowledge objects).next t input
  pub next : event ≡ next objects t input
  pub number : new.number ≡ event.node
  pub own :
      history_of objects (event ∷ t) event.node
      ≡ received_with event (mail_got t (got_of input)) (load_of_input objects t input)
      ∷ history_of objects t event.node
  pub represents : Represents objects (history_of objects (event ∷ t) event.node) new
  pub others : (m : ℕ) → (event.node ≡ m → ⊥)
      → history_of objects (event ∷ t) m ≡ history_of objects t m

-- A step of a node that is not halted.
abbrev pub StepsLeadOn : Type 0
StepsLeadOn =
    (objects : List ObjectDecl) (taken : ℕ → Bool) (t : List Event) (input : Input) (old new : Node)
    (mail : Option Mail)
    (load : Load) (event : Event)
    → IsRunTaking objects taken t → MayCome objects t input
    → old.number ≡ node_of t input
    → IsThrough objects (node_of t input) (history_of objects t (node_of t input))
    → Represents objects (history_of objects t (node_of t input)) old
    → IsPut objects t input mail load → IsStepThrough objects old new input mail load event
    → HasStepped objects t input new event

-- A restart, from a log that keeps the node's history.
abbrev pub RestartsLeadOn : Type 0
RestartsLeadOn =
    (objects : List ObjectDecl) (taken : ℕ → Bool) (t : List Event) (s : ℕ) (logged : Logged)
    (new : Node) (entries : List (List ℕ)) (event : Event)
    → IsRunTaking objects taken t → MayCome objects t (Restarts s)
    → IsEnded objects s (history_of objects t s)
    → IsLogOf objects s (history_of objects t s) logged
    → IsRestart objects s logged new entries event
    → HasStepped objects t (Restarts s) new event

-- What is put: a letter that was read back from its bytes; or nothing, where the node's own input may come.
abbrev pub LettersArePut : Type 0
LettersArePut =
    (objects : List ObjectDecl) (t : List Event) (id : LetterId) (mail : Mail) (found : Letter)
    → letter_at t id ≡ Some mail → IsReadBack objects t id mail found
    → IsPut objects t (Receives id) (Some (mail_on found)) (load_on found)

abbrev pub OwnInputsArePut : Type 0
OwnInputsArePut =
    (objects : List ObjectDecl) (taken : ℕ → Bool) (t : List Event) (input : Input)
    → IsRunTaking objects taken t → MayCome objects t input → got_of input ≡ None
    → IsPut objects t input None no_load
