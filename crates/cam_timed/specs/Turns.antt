-- The turn of a node: an input comes to it, and it makes an event.
use Rattle.std.specs.Prelude.{◌≡◌, ℕ, List, Option, Some, None}
use Rattle.cam_type.specs.declared.ObjectDecl.{ObjectDecl}
use Rattle.cam_event.specs.declared.Deed.{Deed}
use Rattle.cam_event.specs.declared.LetterId.{LetterId}
use Rattle.cam_event.specs.ByPast.{event_of}
use Rattle.cam_event.specs.History.{after}
use Rattle.cam_event.specs.Pasts.{plain_all}
use Rattle.cam_event.specs.Runs.{IsNode}
use Rattle.cam_event.specs.Sights.{entries}
use Rattle.cam_own.specs.Own.{KeepsOwn}
use Rattle.cam_own.specs.AllNodes.{KeepsAllNodes}
use Rattle.cam_timed.specs.declared.TimedEvent.{TimedEvent}
use Rattle.cam_timed.specs.declared.machine.Letter.{Letter}
use Rattle.cam_timed.specs.declared.machine.Node.{Node}
use Rattle.cam_timed.specs.declared.machine.Shared.{Shared}
use Rattle.cam_timed.specs.declared.machine.deciding.Decided.{Decided}
use Rattle.cam_timed.specs.declared.ruled.NodeInput.{NodeInput}
use Rattle.cam_timed.specs.Here.{input_of}
use Rattle.cam_timed.specs.Machine.{KeepsLetter, KeepsLetters, deeds_of, id_of}
use Rattle.cam_timed.specs.Moments.{events, moment_of}
use Rattle.cam_timed.specs.TimedRules.{timed_node_of, timed_got_of}
use Rattle.cam_timed.specs.TimedRuns.{TimedMayCome, IsTimedRun}
use Rattle.cam_timed.specs.Travelling.{timed_informs}
use Rattle.cam_timed.specs.Untils.{TellsUntils}

-- the letter is the one that comes, if one does
abbrev pub IsLetterOf : List TimedEvent → Option LetterId → Option Letter → Type 0
IsLetterOf t None None = Unit {0}
IsLetterOf t (Some id) (Some letter) = (letter.id ≡ id) × KeepsLetter t letter
IsLetterOf t _ _ = ⊥

-- an input that may come is given to its node, with its letter
pub record IsTurn (objects : List ObjectDecl) (t : List TimedEvent) (s : ℕ) (input : NodeInput)
    (letter : Option Letter) : Type 0 where
  pub run : IsTimedRun objects t
  pub may : TimedMayCome objects t (input_of input)
  pub node : timed_node_of t (input_of input) ≡ s
  pub range : IsNode s
  pub comes : IsLetterOf t (timed_got_of (input_of input)) letter

-- these are the first Informs of its event
abbrev pub AreFirst : List TimedEvent → ℕ → NodeInput → List Deed → Type 0
AreFirst t s input first = first ≡ timed_informs (events t) s (timed_got_of (input_of input))

-- the tables of the node and of all have the first Informs besides
pub record KeepsFirst (objects : List ObjectDecl) (t : List TimedEvent) (s : ℕ)
    (first : List Deed) (node : Node) (shared : Shared) : Type 0 where
  pub own :
      KeepsOwn objects s (after (deeds_of (events t) s) first) (entries (events t) s) node.own
  pub moment : node.moment ≡ moment_of t s
  pub all_nodes : KeepsAllNodes objects (after (plain_all (events t)) first) shared.all_nodes
  pub untils : TellsUntils t shared.untils
  pub letters : KeepsLetters t shared.letters

-- the event that was decided
abbrev pub taken : ℕ → Option Letter → List Deed → Decided → TimedEvent
taken s letter first decided =
    record {
      event = event_of s (id_of letter) first decided.did;
      moment = decided.moment;
      until = decided.until;
      pause = decided.pause;
    }
