-- What a line does to the parts of a run: a delivery, a loss, a halt, a restart, and what changes
-- neither nodes nor letters.
use Rattle.std.specs.Prelude.{◌≡◌, ℕ, ◌-◌, Bool, true, false, List, []}
use Rattle.std.specs.Prelude.{◌∷◌, set, slice_get, length, Option, Some, None}
use Rattle.cam_event.specs.declared.Event.{Event}
use Rattle.cam_event.specs.declared.LetterId.{LetterId}
use Rattle.cam_event.specs.declared.Letter.{Letter}
use Rattle.cam_event.specs.Inputs.{Input, Receives, Restarts, Mail, node_of}
use Rattle.cam_event.specs.Loads.{Load}
use Rattle.cam_event.specs.Runs.{IsNode}
use Rattle.cam_type.specs.declared.ObjectDecl.{ObjectDecl}
use Rattle.cam_net.specs.Letters.{InFlightFields, has_letter, changed, as_lost, as_delivered}
use Rattle.cam_net.specs.Waiting.{next_of}
use Rattle.cam_node.specs.Calls.{letters_of}
use Rattle.cam_node.specs.Halting.{IsStepThrough}
use Rattle.cam_node.specs.Keeping.{IsLogOf, IsRestart}
use Rattle.cam_node.specs.Log.{Logged}
use Rattle.cam_script.specs.declared.Script.{Script}
use Rattle.cam_runs.specs.Running.{has_number, letter_of}
use Rattle.cam_runs.specs.Halts.{Halting}
use Rattle.cam_runs.specs.UnderHalts.{IsUnderHalts}
use Rattle.cam_runs.specs.Standing.{Standing, Setting, addressee, waiting, put, deliver, ended_halt}
use Rattle.cam_runs.specs.HaltedLines.{lose}
use Rattle.cam_histories.specs.Laws.{history_of}
use Rattle.cam_histories.specs.FlightLaws.{IsSameFlight}
use Rattle.cam_histories.specs.Stepping.{IsPut, HasStepped}
use Rattle.cam_histories.specs.Whole.{Site, IsWhole}
use Rattle.cam_histories.specs.InputLaws.{held_setting, halt_of, with_site, KeepsEvent}

-- The letter that the network names next is the run's that waits, and can be delivered: its node is
-- not halted.
pub record IsNextLetter (st : Standing) (number : ℕ) (id : LetterId) : Type 0 where
  pub waits : waiting st ≡ Some (number, id)
  pub is_letter : letter_of st.running number ≡ Some id
  pub awake : has_number st.halted (addressee st id) ≡ false

pub record HasNext (st : Standing) (number : ℕ) : Type 0 where
  pub id : LetterId
  pub next : IsNextLetter st number id

abbrev pub NextsAreLetters : Type 0
NextsAreLetters =
    (objects : List ObjectDecl) (st : Standing) (sites : List Site) (net : List InFlightFields)
    (halted : List Bool) (number : ℕ)
    → IsWhole objects st sites net [] halted → next_of halted net ≡ Some number → HasNext st number

-- and where it names none, none waits.
abbrev pub NoneIsNext : Type 0
NoneIsNext =
    (objects : List ObjectDecl) (st : Standing) (sites : List Site) (net : List InFlightFields)
    (halted : List Bool)
    → IsWhole objects st sites net [] halted → next_of halted net ≡ None → waiting st ≡ None

-- A delivery that is no halt: the letter counts as delivered, and the letters of the event are put
-- next.
pub record HasDelivered (script : Script) (c : Setting) (st : Standing) (number : ℕ) (id : LetterId)
    (sites : List Site)
    (net : List InFlightFields) (halted : List Bool) (new : Site) (event : Event) : Type 0 where
  pub under : IsUnderHalts script (deliver c st number id)
  pub trace : (deliver c st number id).running.trace ≡ event ∷ st.running.trace
  pub stepped : HasStepped script.objects st.running.trace (Receives id) new.node event
  pub whole :
      IsWhole script.objects (deliver c st number id)
      (with_site st.running.trace (Receives id) sites new)
      (changed as_delivered net number) (letters_of new.node event.sent) halted

abbrev pub DeliveriesStand : Type 0
DeliveriesStand =
    (script : Script) (halts : Halting) (line : ℕ) (restarted : ℕ → Bool) (st : Standing)
    (number : ℕ) (id : LetterId)
    (sites : List Site) (net : List InFlightFields) (halted : List Bool) (old new : Site)
    (mail : Option Mail) (load : Load)
    (event : Event)
    → IsUnderHalts script st → letter_of st.running number ≡ Some id
    → has_number st.halted (addressee st id) ≡ false
    → halt_of (held_setting script.objects halts line restarted) st (Receives id) ≡ None
    → IsWhole script.objects st sites net [] halted
    → slice_get sites (addressee st id - 1) ≡ Some old
    → IsPut script.objects st.running.trace (Receives id) mail load
    → IsStepThrough script.objects old.node new.node (Receives id) mail load event
    → KeepsEvent script.objects st.running.trace (Receives id) mail load event new
    → HasDelivered script (held_setting script.objects halts line restarted) st number id sites net
    halted new event

-- A loss: the network has the letter exactly if the run can deliver it.
abbrev pub LossesStand : Type 0
LossesStand =
    (script : Script) (st : Standing) (number : ℕ) (sites : List Site) (net : List InFlightFields)
    (halted : List Bool)
    → has_letter net number ≡ true → IsUnderHalts script st
    → IsWhole script.objects st sites net [] halted
    → IsUnderHalts script (lose st number) × IsWhole script.objects (lose st number) sites
    (changed as_lost net number) [] halted

-- What changes neither the events nor the letters nor which nodes are halted: marks, variables,
-- bodies, and stops of disks.
abbrev pub OthersStand : Type 0
OthersStand =
    (objects : List ObjectDecl) (old new : Standing) (sites : List Site) (net : List InFlightFields)
    (unput : List Letter)
    (halted : List Bool) → IsSameFlight old new → new.halted ≡ old.halted
    → IsWhole objects old sites net unput halted → IsWhole objects new sites net unput halted

-- A halt that is lost: no event, no letter, and the node is halted.
abbrev pub LostHaltsStand : Type 0
LostHaltsStand =
    (script : Script) (halts : Halting) (line : ℕ) (restarted : ℕ → Bool) (st : Standing)
    (input : Input) (sites : List Site)
    (net : List InFlightFields) (halted : List Bool) (new : Site)
    → halt_of (held_setting script.objects halts line restarted) st input ≡ Some false
    → IsNode (node_of st.running.trace input) → length halted ≡ 8
    → new.node.number ≡ node_of st.running.trace input
    → IsWhole script.objects st sites net [] halted
    → IsWhole script.objects (put (held_setting script.objects halts line restarted) st input)
    (with_site st.running.trace input sites new) net []
    (set halted (node_of st.running.trace input - 1) true)

-- A restart that comes to its end, from a log that keeps the node's history in this run: the node
-- is no longer halted.
pub record HasRestarted (script : Script) (c : Setting) (st : Standing) (s : ℕ) (sites : List Site)
    (net : List InFlightFields)
    (halted : List Bool) (new : Site) (event : Event) : Type 0 where
  pub under : IsUnderHalts script (put c (ended_halt st s) (Restarts s))
  pub trace : (put c (ended_halt st s) (Restarts s)).running.trace ≡ event ∷ st.running.trace
  pub stepped : HasStepped script.objects st.running.trace (Restarts s) new.node event
  pub whole :
      IsWhole script.objects (put c (ended_halt st s) (Restarts s)) (set sites (s - 1) new) net
      (letters_of new.node event.sent) (set halted (s - 1) false)

abbrev pub RestartsStand : Type 0
RestartsStand =
    (script : Script) (halts : Halting) (line : ℕ) (restarted : ℕ → Bool) (st : Standing) (s : ℕ)
    (sites : List Site)
    (net : List InFlightFields) (halted : List Bool) (logged : Logged) (new : Site) (event : Event)
    → IsUnderHalts script st → IsNode s → length halted ≡ 8
    → halt_of (held_setting script.objects halts line restarted) (ended_halt st s) (Restarts s)
    ≡ None
    → IsWhole script.objects st sites net [] halted
    → IsLogOf script.objects s (history_of script.objects st.running.trace s) logged
    → IsRestart script.objects s logged new.node new.entries event
    → HasRestarted script (held_setting script.objects halts line restarted) st s sites net halted
    new event
