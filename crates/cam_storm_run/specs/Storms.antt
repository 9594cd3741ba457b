-- What the run of a storm owes: it is settled, and the disks keep it.
use Rattle.std.specs.Prelude.{◌≡◌, ◌≤◌, ◌⊎◌, ℕ, false, List, Some, slice_get}
use Rattle.cam_event.specs.declared.Event.{Event}
use Rattle.cam_gen.specs.Storms.{Words, objects_of}
use Rattle.cam_hall.specs.Turns.{most_events}
use Rattle.cam_node.specs.Kept.{IsKept}
use Rattle.cam_node.specs.Log.{Logged}
use Rattle.cam_storm.specs.Runs.{Settled, own_count}
use Rattle.cam_storm_node.specs.Playing.{StormNodeFields, is_over}

-- a node has as many events as a node can have
pub record HasFullNode (t : List Event) : Type 0 where
  pub node : ℕ
  pub low : 1 ≤ node
  pub high : node ≤ 4
  pub full : own_count t node ≡ most_events

-- The run is settled, unless a node is full.
abbrev pub IsSettled : Words → List Event → Type 0
IsSettled words t = Settled words t ⊎ HasFullNode t

-- Whatever may be read from the disk of a node is what the node kept in the run. `may_read` is what
-- the disk of each node opens as.
abbrev pub AreKept : Words → List Event → (ℕ → Logged → Type 0) → Type 0
AreKept words t may_read =
    (s : ℕ) (logged : Logged) → 1 ≤ s → s ≤ 4 → may_read s logged
    → IsKept (objects_of words) t s logged.count logged.know logged.held

-- none of these nodes has given up
abbrev pub AreRunning : {N : Type 0} → (N → StormNodeFields) → List N → Type 0
AreRunning {N} fields nodes =
    (at : ℕ) (node : N) → slice_get nodes at ≡ Some node → is_over (fields node) ≡ false
