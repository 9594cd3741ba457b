-- What a node of a run has counted: no more than there are events.
use Rattle.std.specs.Prelude.{◌≡◌, ℕ, ◌+◌, ◌≤◌, Bool, List, map, length, None}
use Rattle.cam_names.specs.declared.name.Name.{Name}
use Rattle.cam_names.specs.Names.{home_node}
use Rattle.cam_type.specs.declared.ObjectDecl.{ObjectDecl}
use Rattle.cam_know.specs.Known.{nothing}
use Rattle.cam_event.specs.declared.Deed.{Deed}
use Rattle.cam_event.specs.declared.Event.{Event}
use Rattle.cam_event.specs.declared.Want.{Want}
use Rattle.cam_event.specs.ByKnowledge.{held_sight}
use Rattle.cam_event.specs.Carried.{deeds_of}
use Rattle.cam_event.specs.ByDeltas.{Received, as_carried}
use Rattle.cam_event.specs.Refusals.{refusal}
use Rattle.cam_event.specs.Taken.{IsRunTaking}
use Rattle.cam_tranman.specs.Actions.{MayRunHere, asks, calls}
use Rattle.cam_node.specs.Represents.{Node, Represents}
use Rattle.cam_histories.specs.Laws.{history_of}

-- The count of the node is at most the number of events and 1. The top actions of its incarnation,
-- and the children and calls of an action that may run there, are no more than there are events: so
-- numbers are left.
pub record HasCounted (t : List Event) (s : ℕ) (own : List Deed) (node : Node) : Type 0 where
  pub count : node.count ≤ length t + 1
  pub tops : node.actions.tops ≤ length t
  pub children : (a : Name) → MayRunHere own s a → asks node.actions a ≤ length t
  pub called : (a : Name) → MayRunHere own s a → calls node.actions a ≤ length t

abbrev pub NodesCountFew : Type 0
NodesCountFew =
    (objects : List ObjectDecl) (taken : ℕ → Bool) (t : List Event) (s : ℕ) (node : Node)
    → IsRunTaking objects taken t → node.number ≡ s
    → Represents objects (history_of objects t s) node
    → HasCounted t s (deeds_of (map as_carried (history_of objects t s))) node

-- An action of which a request is not refused may run at its home.
abbrev pub AskedMayRun : Type 0
AskedMayRun =
    (objects : List ObjectDecl) (s : ℕ) (history : List Received) (a : Name) (want : Want)
    → home_node a ≡ s
    → refusal (held_sight objects s (map as_carried history) nothing) a want ≡ None
    → MayRunHere (deeds_of (map as_carried history)) s a
