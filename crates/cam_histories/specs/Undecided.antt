-- Halts of which a run does not yet tell whether they are taken: what each adds to the history of its
-- node where a restart finds it, and what becomes of the others then.
use Rattle.std.specs.Prelude.{◌≡◌, ◌≤◌, ℕ, zero, nat_lt, Bool, true, if◌then◌else◌, List, [], ◌∷◌}
use Rattle.std.specs.Prelude.{◌++◌, length, Option, Some}
use Rattle.cam_type.specs.declared.ObjectDecl.{ObjectDecl}
use Rattle.cam_event.specs.declared.Event.{Event}
use Rattle.cam_event.specs.ByDeltas.{Received, received, received_of}
use Rattle.cam_event.specs.Inputs.{Input, Mail, mail_got, node_of, got_of}
use Rattle.cam_event.specs.Loads.{Load}
use Rattle.cam_event.specs.Readings.{by_knowledge}
use Rattle.cam_event.specs.Runs.{MayCome}
use Rattle.cam_event.specs.Taken.{IsRunTaking, taken_of}
use Rattle.cam_node.specs.Found.{IsHaltedAt, IsLogOfOneOf, whole_step}
use Rattle.cam_node.specs.Halting.{taken, taken_step}
use Rattle.cam_node.specs.Keeping.{IsLogOfEither}
use Rattle.cam_node.specs.Log.{Logged}
use Rattle.cam_node.specs.Represents.{Node}
use Rattle.cam_script.specs.declared.Script.{Script}
use Rattle.cam_runs.specs.Running.{has_number}
use Rattle.cam_runs.specs.Standing.{Standing, Undecided, undecided_of}
use Rattle.cam_runs.specs.UnderHalts.{ArePlaced, IsUnderHalts}
use Rattle.cam_histories.specs.Found.{undecided_beside, IsFound, IsBeyond}
use Rattle.cam_histories.specs.Laws.{history_of, load_of_input}
use Rattle.cam_histories.specs.PutIn.{nameless}
use Rattle.cam_histories.specs.Stepping.{IsPut}

-- so many of the events, the oldest
abbrev pub events_before : ℕ → List Event → List Event
events_before n [] = []
events_before n (e ∷ before) = if nat_lt (length before) n then e ∷ before else events_before n before

-- the event with the letter that it received and what that carried
abbrev pub received_behind : List ObjectDecl → List Event → Event → Received
received_behind objects before e =
    received objects (received_of objects before) e (mail_got before e.got)

-- what a restart that finds the event adds to the history of its node
abbrev pub received_at : List ObjectDecl → List Event → Undecided → Received
received_at objects trace u = received_behind objects (events_before u.before trace) u.event

-- At first it is what was taken of the node's step. What was put to the node was as good as what
-- the run has of it, so the node halted in exactly that step, and its log may have it.
abbrev pub step_in : List ObjectDecl → List Event → Input → Received
step_in objects t input =
    whole_step objects (node_of t input) (history_of objects t (node_of t input)) input
    (mail_got t (got_of input)) (load_of_input objects t input)

abbrev pub undecided_in : List ObjectDecl → List Event → Input → Undecided
undecided_in objects t input =
    record {
      node = node_of t input;
      before = length t;
      event = taken_of ((by_knowledge objects).next t input);
    }

pub record IsNewHalt (objects : List ObjectDecl) (t : List Event) (input : Input) (node : Node)
    (event : Event) : Type 0 where
  pub halted :
      IsHaltedAt objects (history_of objects t (node_of t input)) (step_in objects t input) node
      event
  pub is_undecided : event ≡ (undecided_in objects t input).event
  pub adds :
      taken (step_in objects t input) ≡ received_at objects t (undecided_in objects t input)

abbrev pub NewHaltsAreUndecided : Type 0
NewHaltsAreUndecided =
    (objects : List ObjectDecl) (taken : ℕ → Bool) (t : List Event) (input : Input)
    (mail : Option Mail) (load : Load) (node : Node) (event : Event)
    → IsRunTaking objects taken t → MayCome objects t input → IsPut objects t input mail load
    → node.number ≡ node_of t input
    → IsHaltedAt objects (history_of objects t (node_of t input))
    (whole_step objects (node_of t input) (history_of objects t (node_of t input)) input mail load)
    node event
    → IsNewHalt objects t input node event

abbrev pub NewHaltsKeepLogs : Type 0
NewHaltsKeepLogs =
    (objects : List ObjectDecl) (t : List Event) (input : Input) (mail : Option Mail) (load : Load)
    (logged : Logged) → IsPut objects t input mail load
    → IsLogOfEither objects (node_of t input) (history_of objects t (node_of t input))
    (taken_step objects (node_of t input) (history_of objects t (node_of t input)) input mail load)
    logged
    → IsLogOfOneOf objects (node_of t input) (history_of objects t (node_of t input))
    (step_in objects t input) zero logged

-- The node is halted, and all events that stood before it stand now.
pub record IsUndecidedOf (st : Standing) (s : ℕ) (u : Undecided) : Type 0 where
  pub node : u.node ≡ s
  pub halted : has_number st.halted s ≡ true
  pub within : u.before ≤ length st.running.trace

abbrev pub UndecidedAreHalts : Type 0
UndecidedAreHalts =
    (script : Script) (st : Standing) (s : ℕ) (u : Undecided) → IsUnderHalts script st
    → undecided_of s st.undecided ≡ Some u → IsUndecidedOf st s u

-- It stays the same, whatever comes after.
abbrev pub UndecidedStay : Type 0
UndecidedStay =
    (objects : List ObjectDecl) (more trace : List Event) (u : Undecided) → u.before ≤ length trace
    → received_at objects (more ++ trace) u ≡ received_at objects trace u

-- Where a halt is found to be taken its event stands at the place that the run has of it,
abbrev pub FoundEventsHaveTheirPlace : Type 0
FoundEventsHaveTheirPlace =
    (objects : List ObjectDecl) (s : ℕ) (before : List Event) (e : Event) (lost found : Standing)
    → IsFound s before e lost found → events_before (length before) lost.running.trace ≡ before

-- the history of its node has exactly that besides,
abbrev pub FoundEventsAreUndecided : Type 0
FoundEventsAreUndecided =
    (objects : List ObjectDecl) (k s : ℕ) (before : List Event) (e : Event) (lost found : Standing)
    (u : Undecided) → IsBeyond objects k s before e lost found
    → undecided_of s lost.undecided ≡ Some u
    → history_of objects found.running.trace s
    ≡ received_at objects lost.running.trace u ∷ history_of objects lost.running.trace s

-- the halt is undecided no more,
abbrev pub FoundHaltsAreDecided : Type 0
FoundHaltsAreDecided =
    (objects : List ObjectDecl) (s : ℕ) (before : List Event) (e : Event) (lost found : Standing)
    → IsFound s before e lost found
    → found.undecided ≡ undecided_beside s (length before) lost.undecided

-- and the others are what they were, but for the numbers of letters.
pub record IsUndecidedAlike (objects : List ObjectDecl) (m : ℕ) (u : Undecided)
    (lost found : Standing) : Type 0 where
  pub there : Undecided
  pub is : undecided_of m found.undecided ≡ Some there
  pub alike :
      nameless (received_at objects found.running.trace there)
      ≡ nameless (received_at objects lost.running.trace u)

abbrev pub OthersStayUndecided : Type 0
OthersStayUndecided =
    (objects : List ObjectDecl) (k s m : ℕ) (before : List Event) (e : Event)
    (lost found : Standing) (u : Undecided) → IsBeyond objects k s before e lost found
    → ArePlaced (length lost.running.trace) lost.undecided → (s ≡ m → ⊥)
    → undecided_of m lost.undecided ≡ Some u → IsUndecidedAlike objects m u lost found
