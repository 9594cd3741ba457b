-- A node of a run by the lines that stop its disk, while no call of the disk that was done has
-- failed: it does as many calls more as they say. Where they end at an append the node is halted,
-- and its log has what was taken of the event exactly if three calls of the append passed.
use Rattle.std.specs.Prelude.{◌≡◌, ℕ, true, false, List, Option, Some}
use Rattle.cam_type.specs.declared.ObjectDecl.{ObjectDecl}
use Rattle.cam_event.specs.declared.Event.{Event}
use Rattle.cam_event.specs.ByDeltas.{Received}
use Rattle.cam_log.specs.Moments.{Opened}
use Rattle.cam_node.specs.Appending.{OpensAs, history_after}
use Rattle.cam_node.specs.Found.{Adds, IsHaltedAt}
use Rattle.cam_node.specs.Halting.{taken}
use Rattle.cam_node.specs.Represents.{Node}
use Rattle.cam_runs.specs.Running.{has_number}
use Rattle.cam_runs.specs.Halts.{Turn, calls_left}
use Rattle.cam_histories.specs.Laws.{history_of}
use Rattle.cam_cluster.specs.Stopping.{stopped_at}

-- A stop ended at the last input of the node. What the node keeps of its event is what its log may
-- have of it, which adds to the log; and the log reads as that of the history with it, where three
-- calls passed.
pub record IsHaltByStop (objects : List ObjectDecl) (history : List Received) (turns : List Turn)
    (s : ℕ) (node : Node) (halted_at : Option Event) (reads : Opened) : Type 0 where
  pub whole : Received
  pub event : Event
  pub kept : halted_at ≡ Some event
  pub halted : IsHaltedAt objects history whole node event
  pub adds : Adds objects history whole
  pub calls : ℕ
  pub stopped : stopped_at turns s ≡ Some calls
  pub opens : OpensAs objects s (history_after calls history (taken whole)) reads

-- `passes` is how many calls its disk does more, and `reads` what its log opens as now.
pub record IsStoppedAs (objects : List ObjectDecl) (trace : List Event) (halted : List ℕ)
    (turns : List Turn) (s : ℕ) (node : Node) (halted_at : Option Event) (passes : Option ℕ)
    (reads : Opened) : Type 0 where
  pub awake : has_number halted s ≡ false → passes ≡ calls_left turns s
  pub by_stop :
      has_number halted s ≡ true
      → IsHaltByStop objects (history_of objects trace s) turns s node halted_at reads
