-- A restart takes the log of each history of the node, where numbers are left.
use Rattle.std.specs.Prelude.{◌≡◌, ℕ, ◌<◌, ◌≤◌, true, List}
use Rattle.cam_type.specs.declared.ObjectDecl.{ObjectDecl}
use Rattle.cam_event.specs.ByDeltas.{Received}
use Rattle.cam_recman.specs.declared.Recovered.{Recovered}
use Rattle.cam_node.specs.Halting.{IsEnded}
use Rattle.cam_node.specs.Keeping.{IsLogOf}
use Rattle.cam_node.specs.Log.{Logged}
use Rattle.cam_node.specs.Opened.{CanRestart, logged_of}
use Rattle.cam_node.specs.Restartable.{are_low}

-- The count can be raised, and no index is above 499,999,999. No history bounds either: a node may restart, and be called, however often.
pub record LeavesNumbers (logged : Logged) : Type 0 where
  pub count : logged.count < 1000000000
  pub indices : are_low logged.held ≡ true

-- a log of some history, which may end with an event that was taken at a halt
pub record IsOfHistory (objects : List ObjectDecl) (s : ℕ) (logged : Logged) : Type 0 where
  pub history : List Received
  pub ended : IsEnded objects s history
  pub is_log : IsLogOf objects s history logged
  pub numbers : LeavesNumbers logged

abbrev pub LogsOfHistoriesRestart : Type 0
LogsOfHistoriesRestart =
    (objects : List ObjectDecl) (s : ℕ) (r : Recovered) → 1 ≤ s → s ≤ 8
    → IsOfHistory objects s (logged_of r) → CanRestart objects s r
