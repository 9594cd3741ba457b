-- The value of an object by a node's history: the one that the next operation meets, and the one that
-- is handed up past the top.
use Rattle.std.specs.Prelude.{◌≡◌, ℕ, eqb, Bool, ◌&&◌, List, map, filter}
use Rattle.cam_type.specs.declared.ObjectDecl.{ObjectDecl}
use Rattle.cam_type.specs.declared.State.{State}
use Rattle.cam_event.specs.declared.Deed.{Deed}
use Rattle.cam_event.specs.declared.Operation.{Operation}
use Rattle.cam_event.specs.Live.{lift, replay, start_of}
use Rattle.cam_event.specs.Rules.{on_object}
use Rattle.cam_event.specs.Settled.{is_past_top}
use Rattle.cam_event.specs.HeldSites.{site}
use Rattle.cam_event.specs.Carried.{deeds_of}
use Rattle.cam_event.specs.ByDeltas.{Received, as_carried}
use Rattle.cam_locks.specs.Moss.{value}
use Rattle.cam_node.specs.Represents.{Node, Represents}

-- an operation on the object, whose action's lift at the site is past the top
abbrev pub is_handed_up : List Deed → ℕ → ℕ → Operation → Bool
is_handed_up deeds s x o = eqb o.object x && is_past_top (lift deeds s o.action)

-- Those of the site's live operations, applied in order from the object's start state.
abbrev pub handed_up : List ObjectDecl → ℕ → List Received → ℕ → State
handed_up objects s history x =
    replay (start_of objects x)
    (filter (is_handed_up (deeds_of (map as_carried history)) s x)
    (map (λ p. p.operation) (site (map as_carried history)).live))

-- The site's live operations on the object, applied in order from its start state: the value that the
-- next operation meets.
abbrev pub met : List ObjectDecl → List Received → ℕ → State
met objects history x =
    replay (start_of objects x)
    (on_object x (map (λ p. p.operation) (site (map as_carried history)).live))

-- The lock table of a node has that value, by each history that the node represents.
abbrev pub ValuesAreMet : Type 0
ValuesAreMet =
    (objects : List ObjectDecl) (history : List Received) (node : Node) (x : ℕ)
    → Represents objects history node → value node.server.table.site x ≡ met objects history x
