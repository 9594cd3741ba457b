-- What the disks of a cluster keep: that of each node is a log again, and from that of each node
-- that is not halted a restart recovers what the run keeps.
use Rattle.std.specs.Prelude.{◌≡◌, ◌≤◌, ℕ, ◌-◌, Bool, true, false, List, Some, slice_get}
use Rattle.cam_ckpt.specs.Reading.{read_ckpt}
use Rattle.cam_log.specs.Moments.{OpeningsBy}
use Rattle.cam_node.specs.Log.{Logged, KeepsLog}
use Rattle.cam_node.specs.Opened.{MayRead, is_readable}
use Rattle.cam_runs.specs.Running.{has_number}
use Rattle.cam_runs.specs.Standing.{Standing}
use Rattle.cam_script.specs.declared.Script.{Script}
use Rattle.cam_histories.specs.Laws.{history_of}
use Rattle.cam_cluster.specs.Seen.{Seen}

-- what was read keeps the history that a node has where this stands
abbrev pub KeepsHistoryOf : Script → ℕ → Standing → Logged → Type 0
KeepsHistoryOf script s st logged =
    KeepsLog script.objects s (history_of script.objects st.running.trace s) logged

-- Whatever may be read from the disk of a node that is not halted keeps the node's history of the
-- run.
abbrev pub KeepsLogs : Seen → (ℕ → Logged → Type 0) → Type 0
KeepsLogs cluster may_read =
    (s : ℕ) (logged : Logged) → 1 ≤ s → s ≤ cluster.script.nodes
    → has_number cluster.standing.halted s ≡ false → may_read s logged
    → KeepsHistoryOf cluster.script s cluster.standing logged

-- what may be read from the disk at the place of a node, where it tells what it holds: after a
-- crash now, too
pub record MayReadDisk {D : Type 0} (tells : D → Bool) (moment : D → ℕ)
    (left_since : D → ℕ → List ℕ → Type 0) (disks : List D) (s : ℕ)
    (logged : Logged) : Type 0 where
  pub disk : D
  pub at : slice_get disks (s - 1) ≡ Some disk
  pub told : tells disk ≡ true
  pub reads : MayRead (OpeningsBy read_ckpt (left_since disk)) (moment disk) logged

-- Whatever a crash now leaves of one of these disks is the log of a node: a halted node has one
-- too.
abbrev pub AreLogs : {D : Type 0} → (D → Bool) → (D → ℕ) → (D → ℕ → List ℕ → Type 0) → List D
    → Type 0
AreLogs {D} tells moment left_since disks =
    (place : ℕ) (disk : D) (image : List ℕ) → slice_get disks place ≡ Some disk
    → tells disk ≡ true → left_since disk (moment disk) image
    → is_readable (read_ckpt image) ≡ true
