-- What the log of a node keeps that is halted at the end of a run of a script: what it kept before
-- the event at which the node halted, or with what was taken of that event besides.
use Rattle.std.specs.Prelude.{◌≡◌, ◌≤◌, ◌⊎◌, ℕ, true, List}
use Rattle.cam_event.specs.Readings.{by_pasts}
use Rattle.cam_node.specs.Log.{Logged}
use Rattle.cam_runs.specs.Halts.{Halt}
use Rattle.cam_runs.specs.HaltedLines.{run_with}
use Rattle.cam_runs.specs.Running.{has_number}
use Rattle.cam_script.specs.declared.Script.{Script}
use Rattle.cam_cluster.specs.Disks.{KeepsHistoryOf}
use Rattle.cam_cluster.specs.FoundHalts.{IsPutIn}

-- The run in which the log took the event at which the node halted, by its halts. It is the run with
-- these halts, with that event put in at its place: that of the node's last input, which has this number.
pub record TakenRun (script : Script) (known : List Halt) (s : ℕ) : Type 0 where
  pub halts : List Halt
  pub number : ℕ
  pub put_in :
      IsPutIn script.objects number s (run_with by_pasts script known)
      (run_with by_pasts script halts)

-- Whatever may be read of the log keeps the node's history of the run, or of the run in which
-- the log took the event.
pub record KeepsEither (script : Script) (known : List Halt) (s : ℕ)
    (may_read : Logged → Type 0) : Type 0 where
  pub taken : TakenRun script known s
  pub either :
      (logged : Logged) → may_read logged
      → KeepsHistoryOf script s (run_with by_pasts script known) logged
      ⊎ KeepsHistoryOf script s (run_with by_pasts script taken.halts) logged

-- So it is of each node that is halted at the end.
abbrev pub KeepsHaltedLogs : Script → List Halt → (ℕ → Logged → Type 0) → Type 0
KeepsHaltedLogs script known may_read =
    (s : ℕ) → 1 ≤ s → s ≤ script.nodes
    → has_number (run_with by_pasts script known).halted s ≡ true
    → KeepsEither script known s (may_read s)
