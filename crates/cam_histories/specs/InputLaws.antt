-- An input of a run and the parts of the run: one node makes its step, and its letters are put
-- next.
use Rattle.std.specs.Prelude.{◌≡◌, ℕ, ◌-◌, Bool, false, List, [], ◌∷◌, set, slice_get, Option, Some}
use Rattle.std.specs.Prelude.{None}
use Rattle.cam_type.specs.declared.ObjectDecl.{ObjectDecl}
use Rattle.cam_event.specs.declared.Event.{Event}
use Rattle.cam_event.specs.Inputs.{Input, Requests, Mail, node_of}
use Rattle.cam_event.specs.Loads.{Load}
use Rattle.cam_event.specs.Pasts.{plain_all}
use Rattle.cam_event.specs.Readings.{by_knowledge}
use Rattle.cam_event.specs.Runs.{MayCome}
use Rattle.cam_net.specs.Letters.{InFlightFields}
use Rattle.cam_node.specs.Calls.{letters_of}
use Rattle.cam_node.specs.Halting.{IsStepThrough}
use Rattle.cam_script.specs.declared.Script.{Script}
use Rattle.cam_runs.specs.Running.{has_number}
use Rattle.cam_runs.specs.Playing.{body_number}
use Rattle.cam_runs.specs.UnderWay.{Idle}
use Rattle.cam_runs.specs.UnderHalts.{IsUnderHalts}
use Rattle.cam_runs.specs.Halts.{Halting, appends}
use Rattle.cam_runs.specs.Standing.{Standing, Setting, put}
use Rattle.cam_histories.specs.Laws.{history_of}
use Rattle.cam_histories.specs.ReadBack.{received_with}
use Rattle.cam_histories.specs.Stepping.{IsPut, HasStepped}
use Rattle.cam_histories.specs.Whole.{Site, KeepsInOrder, IsWhole}

-- a line by what nodes hold, whichever inputs are halts
abbrev pub held_setting : List ObjectDecl → Halting → ℕ → (ℕ → Bool) → Setting
held_setting objects halts line restarted =
    record {
      reading = by_knowledge objects;
      halts = halts;
      line = line;
      restarted = restarted;
    }

-- An action that works at a body asks for nothing while something of it is open.
abbrev pub IsIdleFor : Standing → Input → Type 0
IsIdleFor st (Requests r) =
    (body : ℕ) → body_number st.running.bodies r.action ≡ Some body
    → Idle (plain_all st.running.trace) r.action
IsIdleFor st _ = Unit {0}

-- An input that may come to a node that is not halted,
pub record IsComing (script : Script) (st : Standing) (input : Input) : Type 0 where
  pub may : MayCome script.objects st.running.trace input
  pub awake : has_number st.halted (node_of st.running.trace input) ≡ false
  pub idle : IsIdleFor st input

-- leads on to what is under way, halt or not.
abbrev pub InputsLeadOn : Type 0
InputsLeadOn =
    (script : Script) (halts : Halting) (line : ℕ) (restarted : ℕ → Bool) (st : Standing)
    (input : Input)
    → IsUnderHalts script st → IsComing script st input
    → IsUnderHalts script (put (held_setting script.objects halts line restarted) st input)

-- what is said of an input by those who say which inputs are halts
abbrev pub halt_of : Setting → Standing → Input → Option Bool
halt_of c st input =
    let s = node_of st.running.trace input in
    c.halts st.turns s (appends c.reading st.running.trace input) (c.restarted s)

-- the nodes with the one of an input changed
abbrev pub with_site : List Event → Input → List Site → Site → List Site
with_site t input sites new = set sites (node_of t input - 1) new

-- What an input makes that is no halt: the step of its node is the run's next event, and its
-- letters are put next.
pub record HasPut (script : Script) (c : Setting) (st : Standing) (input : Input)
    (sites : List Site) (net : List InFlightFields) (halted : List Bool) (new : Site)
    (event : Event) : Type 0 where
  pub trace : (put c st input).running.trace ≡ event ∷ st.running.trace
  pub stepped : HasStepped script.objects st.running.trace input new.node event
  pub whole :
      IsWhole script.objects (put c st input) (with_site st.running.trace input sites new) net
      (letters_of new.node event.sent) halted

-- the node that made the step, and its log
abbrev pub KeepsEvent :
    List ObjectDecl → List Event → Input → Option Mail → Load → Event → Site → Type 0
KeepsEvent objects t input mail load event new =
    let s = node_of t input in
    KeepsInOrder objects s (received_with event mail load ∷ history_of objects t s) new

abbrev pub InputsStand : Type 0
InputsStand =
    (script : Script) (halts : Halting) (line : ℕ) (restarted : ℕ → Bool) (st : Standing)
    (input : Input) (sites : List Site) (net : List InFlightFields) (halted : List Bool)
    (old new : Site) (mail : Option Mail) (load : Load) (event : Event)
    → IsUnderHalts script st → IsComing script st input
    → halt_of (held_setting script.objects halts line restarted) st input ≡ None
    → IsWhole script.objects st sites net [] halted
    → slice_get sites (node_of st.running.trace input - 1) ≡ Some old
    → IsPut script.objects st.running.trace input mail load
    → IsStepThrough script.objects old.node new.node input mail load event
    → KeepsEvent script.objects st.running.trace input mail load event new
    → HasPut script (held_setting script.objects halts line restarted) st input sites net halted new
    event
