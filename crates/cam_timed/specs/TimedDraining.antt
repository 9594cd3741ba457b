-- A drain of a run by time ends: each delivery of a letter lowers the weight of the letters that wait,
-- so at its end none waits.
use Rattle.std.specs.Prelude.{◌≡◌, ◌<◌, ℕ, List, Some, None}
use Rattle.cam_type.specs.declared.ObjectDecl.{ObjectDecl}
use Rattle.cam_event.specs.declared.LetterId.{LetterId}
use Rattle.cam_timed.specs.TimedRunning.{TimedRunning, by_time, deliver, waiting, waiting_weight, drain}

-- The delivery of the letter that waits lowers the weight.
abbrev pub TimedDeliveriesLower : Type 0
TimedDeliveriesLower =
    (objects : List ObjectDecl) (r : TimedRunning) (w : ℕ × LetterId) → waiting r ≡ Some w
    → waiting_weight (deliver (by_time objects) r w.0 w.1) < waiting_weight r

-- A drain leaves none waiting, whatever came before.
abbrev pub TimedDrainsLeaveNone : Type 0
TimedDrainsLeaveNone =
    (objects : List ObjectDecl) (r : TimedRunning) → waiting (drain (by_time objects) r) ≡ None
