-- The disks of a call: which of them failed in it, and which run those of its nodes keep.
use Rattle.std.specs.Prelude.{◌≡◌, ◌⊎◌, ℕ, ◌<◌, ◌≤◌, Bool, true, false, List, take}
use Rattle.cam_event.specs.declared.Event.{Event}
use Rattle.cam_event.specs.declared.RunRecord.{RunRecord}
use Rattle.cam_gen.specs.Storms.{Words}
use Rattle.cam_node.specs.Kept.{IsKept}
use Rattle.cam_node.specs.Log.{Logged}
use Rattle.cam_runs.specs.Halts.{Halt, Halting, given}
use Rattle.cam_runs.specs.Running.{has_number}
use Rattle.cam_script.specs.declared.Script.{Script}
use Rattle.cam_cluster.specs.declared.fault.RunFault.{RunFault}
use Rattle.cam_cluster.specs.declared.fault.RunFault.TheVariants.{DiskFault, NoMemory}
use Rattle.cam_cluster.specs.Disks.{AreLogs, MayReadDisk}
use Rattle.cam_cluster.specs.FoundHalts.{IsPutIn}
use Rattle.cam_cluster.specs.HandedBack.{HasFailed}
use Rattle.cam_cluster.specs.WholeRuns.{IsRecordOf}
use Rattle.cam_headline.specs.Headline.{halted_events, halted_run}
use Rattle.cam_run.specs.Storm.{KeepStorm}

-- the node whose disk failed by itself, between what was handed in and what is handed back
abbrev pub FailedAt : {D : Type 0} → (D → ℕ) → List D → List D → ℕ → Type 0
FailedAt faults_of before after s = HasFailed faults_of faults_of s before after

-- the disk of one of so many nodes failed
pub record OneFailed (nodes : ℕ) (failed : ℕ → Type 0) : Type 0 where
  pub node : ℕ
  pub high : node ≤ nodes
  pub did : failed node

-- the node is one of so many, and its disk failed
abbrev pub FailedAmong : ℕ → (ℕ → Type 0) → ℕ → Type 0
FailedAmong nodes failed s = (s ≤ nodes) × failed s

-- that of no node before this one failed, in order of their numbers
abbrev pub NoneBefore : (ℕ → Type 0) → ℕ → Type 0
NoneBefore failed s = (k : ℕ) → k < s → failed k → ⊥

-- the cause of a fault of a run: the disk that it names is that of one of so many nodes, and failed
abbrev pub IsNamed : ℕ → (ℕ → Type 0) → RunFault → Type 0
IsNamed nodes failed (DiskFault s) = (s ≤ nodes) × failed s
IsNamed nodes failed NoMemory = Unit {0}

-- and that of a fault of a storm: the first that failed
abbrev pub IsCaused : ℕ → (ℕ → Type 0) → RunFault → Type 0
IsCaused nodes failed (DiskFault s) = (s ≤ nodes) × failed s × NoneBefore failed s
IsCaused nodes failed NoMemory = Unit {0}

-- what was recovered is what the node kept in a run of these events
abbrev pub IsKeptIn : Script → List Event → ℕ → Logged → Type 0
IsKeptIn script t s logged = IsKept script.objects t s logged.count logged.know logged.held

-- What may be recovered from the disk of a node that is not halted at the end of the run in which
-- these inputs are halts is what the node kept.
abbrev pub LeavesLogs : Script → Halting → (ℕ → Logged → Type 0) → Type 0
LeavesLogs script halts may_recover =
    (s : ℕ) (logged : Logged) → 1 ≤ s → s ≤ script.nodes
    → has_number (halted_run script halts).halted s ≡ false → may_recover s logged
    → IsKeptIn script (halted_events script halts) s logged

-- The run in which the log took the event at which the node is halted at the end, by its halts: it is
-- the run with these, with that event put in at the node's last input, which has this number.
pub record TakenHalt (script : Script) (halts : Halting) (s : ℕ) : Type 0 where
  pub with_it : List Halt
  pub number : ℕ
  pub put_in :
      IsPutIn script.objects number s (halted_run script halts)
      (halted_run script (given with_it))

-- What may be recovered from the disk of a node that is halted at the end of the run is what the node
-- kept in it, or in the run in which its log took the event at which it halted.
pub record LeavesEither (script : Script) (halts : Halting) (s : ℕ)
    (may_recover : Logged → Type 0) : Type 0 where
  pub taken : TakenHalt script halts s
  pub either :
      (logged : Logged) → may_recover logged
      → IsKeptIn script (halted_events script halts) s logged
      ⊎ IsKeptIn script (halted_events script (given taken.with_it)) s logged

abbrev pub LeavesHaltedLogs : Script → Halting → (ℕ → Logged → Type 0) → Type 0
LeavesHaltedLogs script halts may_recover =
    (s : ℕ) → 1 ≤ s → s ≤ script.nodes → has_number (halted_run script halts).halted s ≡ true
    → LeavesEither script halts s (may_recover s)

-- What the disks of its nodes keep of the run of a script in which these inputs are halts: whatever a
-- crash now leaves of one is the log of a node; what may be recovered from that of a node that is
-- not halted at the end is what the node kept; and from that of one that is halted it is that, or
-- what the node would have kept with the event at which it halted.
pub record KeepRun {D : Type 0} (tells : D → Bool) (moment : D → ℕ)
    (left_since : D → ℕ → List ℕ → Type 0) (disks : List D) (script : Script)
    (halts : Halting) : Type 0 where
  pub logs : AreLogs tells moment left_since (take script.nodes disks)
  pub kept : LeavesLogs script halts (MayReadDisk tells moment left_since disks)
  pub halted : LeavesHaltedLogs script halts (MayReadDisk tells moment left_since disks)

-- What became of the disks in a call: that of which node failed, and which run of a script or of a
-- storm they keep.
pub record DisksLeft : Type 1 where
  pub failed : ℕ → Type 0
  pub keep : Script → Halting → Type 0
  pub keep_storm : Words → List Event → Type 0

abbrev pub disks_left : {D : Type 0} → (D → Bool) → (D → ℕ) → (D → ℕ) → (D → ℕ → List ℕ → Type 0)
    → List D → List D → DisksLeft
disks_left tells faults_of moment left_since before after =
    record {
      failed = FailedAt faults_of before after;
      keep = KeepRun tells moment left_since after;
      keep_storm = KeepStorm tells moment left_since after;
    }

-- The record is that of a run of the script with halts that are known by which disks failed in it, and
-- the disks keep that very run.
pub record IsRunOver (script : Script) (disks : DisksLeft) (run : RunRecord) : Type 0 where
  pub recorded : IsRecordOf script (FailedAmong script.nodes disks.failed) run
  pub kept : disks.keep script (given recorded.halts)
