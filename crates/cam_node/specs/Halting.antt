-- A node that halts: what its history may be, what its disk may be read as after a fault in a step, and what a restart makes of that.
--
-- Where the append of an event's entry fails the node halts. Its disk then reads as the log without the entry, or with it; no letter of the
-- event leaves. With the entry the event was taken: it stands in the history with only what the entry has, and the next event is a restart.
-- Without it the event is lost, and the history is what it was.
use Rattle.std.specs.Prelude.{◌≡◌, ◌⊎◌, ℕ, true, List, [], ◌∷◌, map, Option, None}
use Rattle.std.specs.List.{list_any}
use Rattle.cam_names.specs.declared.name.Name.{Name}
use Rattle.cam_names.specs.Names.{home_node}
use Rattle.cam_type.specs.declared.ObjectDecl.{ObjectDecl}
use Rattle.cam_know.specs.Known.{nothing}
use Rattle.cam_know.specs.Order.{told_in_order}
use Rattle.cam_event.specs.declared.Event.{Event}
use Rattle.cam_event.specs.declared.Want.{Want}
use Rattle.cam_event.specs.declared.LineRefusal.{LineRefusal}
use Rattle.cam_event.specs.History.{is_crash}
use Rattle.cam_event.specs.Inputs.{Input, Restarts, Mail}
use Rattle.cam_event.specs.Refusals.{refusal, query_refusal}
use Rattle.cam_event.specs.Taken.{taken_of}
use Rattle.cam_event.specs.ByKnowledge.{held_sight, node_step}
use Rattle.cam_event.specs.Loads.{Load, no_load}
use Rattle.cam_event.specs.ByDeltas.{Received, as_carried}
use Rattle.cam_node.specs.Lawful.{MayBePut, IsStepOf, IsLawful}
use Rattle.cam_node.specs.Represents.{Node, Represents}

-- what was taken of an event: the same letter, and of the deeds those that the log entry has
abbrev pub taken : Received → Received
taken c = record c { event = taken_of c.event }

-- the event is what was taken of one that may come next after a history
pub record IsTakenOf (objects : List ObjectDecl) (s : ℕ) (history : List Received) (c : Received) : Type 0 where
  pub whole : Received
  pub step : IsStepOf objects s history whole
  pub is : c ≡ taken whole

abbrev pub Restarted : ℕ → Received → Type 0
Restarted s c = list_any (is_crash s) c.event.deeds ≡ true

-- A history through halts, the newest event first: each event is the definition's step for an input that may be put then, or what was taken
-- of one, directly before a restart.
abbrev pub IsThrough : List ObjectDecl → ℕ → List Received → Type 0
IsThrough objects s [] = Unit {0}
IsThrough objects s (c ∷ []) = IsStepOf objects s [] c
IsThrough objects s (c ∷ k ∷ before) =
    IsStepOf objects s (k ∷ before) c × (IsThrough objects s (k ∷ before) ⊎ (Restarted s c × IsTakenOf objects s before k × IsThrough objects s before))

-- The history of a node that is halted: its newest event may be one that was taken.
abbrev pub IsEnded : List ObjectDecl → ℕ → List Received → Type 0
IsEnded objects s [] = Unit {0}
IsEnded objects s (k ∷ before) = IsThrough objects s (k ∷ before) ⊎ (IsTakenOf objects s before k × IsThrough objects s before)

-- A lawful history without a halt is one.
abbrev pub LawfulIsThrough : Type 0
LawfulIsThrough = (objects : List ObjectDecl) (s : ℕ) (history : List Received) → IsLawful objects s history → IsThrough objects s history

-- What a node answers before a request of an action that it is the home of, and before a query: the refusal of the definition, for each
-- history through halts that it represents.
abbrev pub IsRefusal : List ObjectDecl → Node → Name → Want → Option LineRefusal → Type 0
IsRefusal objects node a want result =
    (history : List Received) → IsThrough objects node.number history → Represents objects history node → home_node a ≡ node.number
    → result ≡ refusal (held_sight objects node.number (map as_carried history) nothing) a want

abbrev pub IsQueryRefusal : List ObjectDecl → Node → Name → Option LineRefusal → Type 0
IsQueryRefusal objects node f result =
    (history : List Received) → IsThrough objects node.number history → Represents objects history node
    → result ≡ query_refusal (held_sight objects node.number (map as_carried history) nothing) f

-- A step that comes to its end: for each such history the event is the definition's, and the node represents the longer history.
pub record IsStepThrough (objects : List ObjectDecl) (old new : Node) (input : Input) (mail : Option Mail) (load : Load) (event : Event) : Type 0 where
  pub number : new.number ≡ old.number
  pub next :
      (history : List Received) → IsThrough objects old.number history → Represents objects history old
      → MayBePut objects old.number (held_sight objects old.number (map as_carried history) nothing) input mail load
      → event ≡ node_step objects old.number (map as_carried history) input mail (told_in_order load.know)
  pub represents :
      (history : List Received) → IsThrough objects old.number history → Represents objects history old
      → MayBePut objects old.number (held_sight objects old.number (map as_carried history) nothing) input mail load
      → Represents objects (record { event = event; mail = mail; load = load } ∷ history) new

-- the event that a fault leaves, where the log took its entry
abbrev pub taken_step : List ObjectDecl → ℕ → List Received → Input → Option Mail → Load → Received
taken_step objects s history input mail load = taken (record { event = node_step objects s (map as_carried history) input mail (told_in_order load.know); mail = mail; load = load })

-- the restart, as a fault of the disk may leave it
abbrev pub restart_step : List ObjectDecl → ℕ → List Received → Received
restart_step objects s history = taken_step objects s history (Restarts s) None no_load

-- What was taken of a restart is the restart,
abbrev pub RestartIsWhole : Type 0
RestartIsWhole = (objects : List ObjectDecl) (s : ℕ) (history : List Received) → (restart_step objects s history).event ≡ node_step objects s (map as_carried history) (Restarts s) None nothing

-- and a restart after a halt leaves a history through it.
abbrev pub restarted : List ObjectDecl → ℕ → List Received → Received
restarted objects s history = record { event = node_step objects s (map as_carried history) (Restarts s) None nothing; mail = None; load = no_load }

abbrev pub RestartsGoThrough : Type 0
RestartsGoThrough = (objects : List ObjectDecl) (s : ℕ) (history : List Received) → IsEnded objects s history → IsThrough objects s (restarted objects s history ∷ history)
