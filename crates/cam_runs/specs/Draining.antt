-- A drain ends: each delivery of a letter lowers the weight of the letters that wait, so at its end none waits.
use Rattle.std.specs.Prelude.{◌≡◌, ℕ, ◌<◌, List, Some, None}
use Rattle.cam_type.specs.declared.ObjectDecl.{ObjectDecl}
use Rattle.cam_event.specs.declared.LetterId.{LetterId}
use Rattle.cam_event.specs.Readings.{Reading, by_pasts, by_knowledge}
use Rattle.cam_script.specs.declared.Statement.{Statement}
use Rattle.cam_runs.specs.Running.{Running, deliver, waiting, waiting_weight, drain}
use Rattle.cam_runs.specs.Playing.{play}

-- The delivery of the letter that waits lowers the weight.
abbrev pub Lowers : Reading → Type 0
Lowers reading = (r : Running) (w : ℕ × LetterId) → waiting r ≡ Some w → waiting_weight (deliver reading r w.0 w.1) < waiting_weight r

-- A drain leaves none waiting.
abbrev pub LeavesNone : Reading → Type 0
LeavesNone reading = (r : Running) → waiting (drain reading r) ≡ None

-- Nor does a play, each round of which ends with a drain.
abbrev pub PlayLeavesNone : Reading → Type 0
PlayLeavesNone reading = (bodies : List (List Statement)) (r : Running) → waiting (play reading bodies r) ≡ None

-- So by either reading, whatever came before.
abbrev pub EachDeliveryLowers : Type 0
EachDeliveryLowers = (objects : List ObjectDecl) → Lowers (by_pasts objects) × Lowers (by_knowledge objects)

abbrev pub DrainsLeaveNone : Type 0
DrainsLeaveNone = (objects : List ObjectDecl) → LeavesNone (by_pasts objects) × LeavesNone (by_knowledge objects)

abbrev pub PlaysLeaveNone : Type 0
PlaysLeaveNone = (objects : List ObjectDecl) → PlayLeavesNone (by_pasts objects) × PlayLeavesNone (by_knowledge objects)
