-- A node with its log, and the history for which both stand: what a step, a halt and a restart do
-- to it.
--
-- A node that runs represents a history through halts, and the entries of its log keep it. A step
-- that comes to its end
-- leaves both with the longer history. At a halt the log may have the event's entry or not. A
-- restart goes on from a history
-- that the log which it read keeps.
use Rattle.std.specs.Prelude.{◌≡◌, ◌⊎◌, ℕ, List, ◌∷◌, map, Option, None}
use Rattle.cam_type.specs.declared.ObjectDecl.{ObjectDecl}
use Rattle.cam_know.specs.Known.{nothing}
use Rattle.cam_event.specs.declared.Event.{Event}
use Rattle.cam_event.specs.Inputs.{Input, Restarts, Mail}
use Rattle.cam_event.specs.ByKnowledge.{held_sight, node_step}
use Rattle.cam_event.specs.Loads.{Load, no_load}
use Rattle.cam_event.specs.ByDeltas.{Received, as_carried, known}
use Rattle.cam_recman.specs.declared.Recovered.{Recovered}
use Rattle.cam_recman.specs.Says.{Says}
use Rattle.cam_node.specs.Log.{Logged, KeepsLog}
use Rattle.cam_node.specs.LogOrder.{IsInOrder}
use Rattle.cam_node.specs.Opened.{IsKnowledge, logged_of}
use Rattle.cam_node.specs.Lawful.{MayBePut}
use Rattle.cam_node.specs.Halting.{IsThrough, IsEnded, taken_step, restarted}
use Rattle.cam_node.specs.Represents.{Node, Represents}

-- A log from which a history goes on: it keeps the history, and what it recovers and what is known
-- then are knowledge.
pub record IsLogOf (objects : List ObjectDecl) (s : ℕ) (history : List Received) (logged : Logged)
    : Type 0 where
  pub keeps : KeepsLog objects s history logged
  pub recovered : IsKnowledge logged.know
  pub known : IsKnowledge (known objects history)

-- entries that say so
pub record KeepsHistory (objects : List ObjectDecl) (s : ℕ) (history : List Received) (entries : List
    (List ℕ)) : Type 0 where
  pub recovered : Recovered
  pub says : Says entries recovered
  pub is_log : IsLogOf objects s history (logged_of recovered)

-- A node that runs, whose log lists these entries, stands for a history through halts. What the
-- log holds of secured families and what is live at the site stand in one order.
pub record KeepsNode (objects : List ObjectDecl) (history : List Received) (node : Node) (entries :
    List (List ℕ)) : Type 0 where
  pub through : IsThrough objects node.number history
  pub represents : Represents objects history node
  pub keeps : KeepsHistory objects node.number history entries
  pub order : IsInOrder history keeps.recovered.held node.server.table.site

-- what may be put to a node after its history
abbrev pub MayBePutThen : List ObjectDecl → ℕ → List Received → Input → Option Mail → Load → Type 0
MayBePutThen objects s history input mail load =
    MayBePut objects s (held_sight objects s (map as_carried history) nothing) input mail load

-- A STEP that comes to its end leaves the node and its log with the longer history.
abbrev pub KeepsOn : List ObjectDecl → Node → List (List ℕ) → Node → List (List ℕ) → Input → Option
    Mail → Load → Event → Type 0
KeepsOn objects old before new now input mail load event =
    (history : List Received) → KeepsNode objects history old before → MayBePutThen objects
    old.number history input mail load
    → KeepsNode objects (record { event = event; mail = mail; load = load } ∷ history) new now

-- A HALT. What a log that is read keeps after a fault in a step: what it kept before, or that with
-- the taken event besides.
abbrev pub IsLogOfEither : List ObjectDecl → ℕ → List Received → Received → Logged → Type 0
IsLogOfEither objects s history halted logged =
    IsLogOf objects s history logged ⊎ IsLogOf objects s (halted ∷ history) logged

-- A step that met a fault of the disk: whatever a crash at any moment leaves, its log keeps one of
-- the two. `may_read` is what
-- may be read from the disk then. No event is told and no letter handed out; the node's layers are
-- no longer asked.
pub record IsHalt (objects : List ObjectDecl) (old : Node) (before : List (List ℕ)) (input : Input)
    (mail : Option Mail)
    (load : Load) (may_read : Logged → Type 0) : Type 0 where
  pub either :
      (history : List Received) (logged : Logged) → KeepsNode objects history old before
      → MayBePutThen objects old.number history input mail load → may_read logged
      → IsLogOfEither objects old.number history (taken_step objects old.number history input mail
      load) logged

-- A RESTART that comes to its end, from a log that is read so: after each history whose log it is,
-- the taken event with it or
-- not, the event is the restart, and node and log stand for the longer history.
pub record IsRestart (objects : List ObjectDecl) (s : ℕ) (logged : Logged) (new : Node) (now :
    List (List ℕ)) (event : Event) : Type 0 where
  pub number : new.number ≡ s
  pub next :
      (history : List Received) → IsEnded objects s history → IsLogOf objects s history logged
      → event ≡ node_step objects s (map as_carried history) (Restarts s) None nothing
  pub keeps :
      (history : List Received) → IsEnded objects s history → IsLogOf objects s history logged
      → KeepsNode objects (record { event = event; mail = None; load = no_load } ∷ history) new now

-- A log with the restart: it keeps what one that might be read before kept, with the restart.
pub record IsRestartOf (objects : List ObjectDecl) (s : ℕ) (might_read : Logged → Type 0) (logged :
    Logged) : Type 0 where
  pub before : Logged
  pub might : might_read before
  pub keeps :
      (history : List Received) → IsEnded objects s history → IsLogOf objects s history before
      → IsLogOf objects s (restarted objects s history ∷ history) logged

-- A restart that failed: what may be read then might be read before, or has the restart besides.
pub record IsRestartHalt (objects : List ObjectDecl) (s : ℕ) (might_read may_read : Logged → Type
    0) : Type 0 where
  pub either : (logged : Logged) → may_read logged → might_read logged ⊎ IsRestartOf objects s
      might_read logged
