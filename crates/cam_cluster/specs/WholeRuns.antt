-- The run of a whole script, line by line.
use Rattle.std.specs.Prelude.{◌≡◌, ℕ, ◌+◌, false, List, Some, slice_get}
use Rattle.cam_event.specs.declared.RunRecord.{RunRecord}
use Rattle.cam_event.specs.Readings.{by_pasts}
use Rattle.cam_node.specs.Log.{Logged}
use Rattle.cam_runs.specs.Halts.{Halt, given}
use Rattle.cam_runs.specs.HaltedLines.{run_with}
use Rattle.cam_script.specs.declared.Script.{Script}
use Rattle.cam_script.specs.declared.Step.{Step}
use Rattle.cam_cluster.specs.declared.workers.Workers.{Workers}
use Rattle.cam_cluster.specs.Courses.{KeepsCourse}
use Rattle.cam_cluster.specs.Disks.{KeepsLogs}
use Rattle.cam_cluster.specs.HaltedLogs.{KeepsHaltedLogs}
use Rattle.cam_cluster.specs.KnownHalts.{AgreesAt, AreKnown}
use Rattle.cam_cluster.specs.Seen.{IsRunRecord, Seen, lines_taken}
use Rattle.cam_cluster.specs.SoFar.{LinesFields}
use Rattle.cam_cluster.specs.Works.{MayGoOn, has_failed}

-- the cluster that has run a whole script, in whose run these inputs are halts
abbrev pub after_all : Script → List Halt → Seen
after_all script halts =
    record { script = script; standing = run_with by_pasts script halts; halts = halts }

-- THE CLAUSE of a run: the record is that of the run of the script with halts that are known by which
-- disks failed by themselves in it.
pub record IsRecordOf (script : Script) (failed : ℕ → Type 0) (result : RunRecord) : Type 0 where
  pub halts : List Halt
  pub is_run : IsRunRecord (after_all script halts) result
  pub known : AreKnown script (given halts) failed

-- The same, and what may be read from the disk of a node that is not halted at the end keeps the
-- node's history of that run; of one that is halted that history, or with the event at which it
-- halted besides.
pub record IsRunWithLogs (script : Script) (failed : ℕ → Type 0) (may_read : ℕ → Logged → Type 0)
    (result : RunRecord) : Type 0 where
  pub recorded : IsRecordOf script failed result
  pub logs : KeepsLogs (after_all script recorded.halts) may_read
  pub halted : KeepsHaltedLogs script recorded.halts may_read

-- So many lines of a script were taken, and the run goes on. The halts of each node whose disk has not
-- failed by itself agree with the lines that stop it.
pub record HasTakenLines (script : Script) (many : ℕ) (lines : LinesFields)
    (may_read : ℕ → Logged → Type 0) (at_work : Workers) : Type 0 where
  pub seen : Seen
  pub keeps : KeepsCourse seen lines may_read at_work
  pub of_script : seen.script ≡ script
  pub taken : lines_taken seen ≡ many
  pub goes_on : MayGoOn lines.works.failed lines.works.nodes
  pub agrees :
      (s : ℕ) → has_failed lines.works.failed s ≡ false
      → AgreesAt s (given seen.halts) seen.standing

-- the step that is taken next
pub record IsNextOfRun (script : Script) (step : Step) (lines : LinesFields)
    (may_read : ℕ → Logged → Type 0) (at_work : Workers) : Type 0 where
  pub many : ℕ
  pub taken : HasTakenLines script many lines may_read at_work
  pub at : slice_get script.steps many ≡ Some step

-- It was taken, or refused.
abbrev pub HasTakenNext : Script → Step → LinesFields → (ℕ → Logged → Type 0) → Workers
    → LinesFields → (ℕ → Logged → Type 0) → Workers → Type 0
HasTakenNext script step old might_read old_workers new may_read at_work =
    (many : ℕ) → HasTakenLines script many old might_read old_workers
    → slice_get script.steps many ≡ Some step
    → HasTakenLines script (many + 1) new may_read at_work
