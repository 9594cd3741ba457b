-- What the disks of its nodes keep of a run: the log of a node gives what the node kept, or what it
-- would have kept with the event at which it is halted at the end.
use Rattle.std.proofs.Common.{◌≡◌, ◌⊎◌, inl, inr, ◌≤◌, ◌-◌, ℕ, Bool, List, ◌++◌, length}
use Rattle.std.proofs.Common.{drop, Result, Ok, Err, IfOk, sym, ap, subst, arith}
use Rattle.std.specs.Prelude.{OnOk}
use Rattle.std.proofs.lemmas.List.{take_at}
use Rattle.cam_event.specs.declared.RunRecord.{RunRecord}
use Rattle.cam_node.specs.Log.{Logged}
use Rattle.cam_runs.specs.Halts.{Halt, Halting, given}
use Rattle.cam_runs.specs.Running.{has_number}
use Rattle.cam_runs.proofs.HaltedWhole.{halted_runs_are_runs}
use Rattle.cam_runs.proofs.Range.{script_in_range}
use Rattle.cam_script.specs.declared.Script.{Script}
use Rattle.cam_script.specs.Law.{IsScript}
use Rattle.cam_cluster.specs.Disks.{AreLogs, KeepsHistoryOf, MayReadDisk}
use Rattle.cam_cluster.specs.WholeRuns.{IsRunWithLogs}
use Rattle.cam_cluster.proofs.RunDisks.{known_by}
use Rattle.cam_headline.specs.Headline.{halted_events, halted_run}
use Rattle.cam_headline.proofs.KeptIndices.{logs_keep}
use Rattle.cam_run.specs.Disks.{DisksLeft, FailedAmong, FailedAt, IsKeptIn, IsRunOver, KeepRun}
use Rattle.cam_run.specs.Disks.{disks_left}
use Rattle.cam_run.proofs.FirstDisks.{IsOverFirst, first_length, of_first}

-- What keeps a node's history of a run with halts is what the node kept in it.
kept_of : (script : Script) (halts : List Halt) → IsScript script → (s : ℕ) (logged : Logged)
    → KeepsHistoryOf script s (halted_run script (given halts)) logged
    → IsKeptIn script (halted_events script (given halts)) s logged
kept_of script halts is_script s logged log =
    logs_keep script.objects (has_number (halted_run script (given halts)).taken)
    (halted_events script (given halts)) s logged
    (halted_runs_are_runs script (given halts) (script_in_range script is_script)) log

either_of : (script : Script) (one other : List Halt) → IsScript script → (s : ℕ) (logged : Logged)
    → KeepsHistoryOf script s (halted_run script (given one)) logged
    ⊎ KeepsHistoryOf script s (halted_run script (given other)) logged
    → IsKeptIn script (halted_events script (given one)) s logged
    ⊎ IsKeptIn script (halted_events script (given other)) s logged
either_of script one other is_script s logged (inl log) =
    inl (kept_of script one is_script s logged log)
either_of script one other is_script s logged (inr log) =
    inr (kept_of script other is_script s logged log)

-- what may be read from a disk of the whole list is what may be read from it among the first ones
pub reads_first : {D : Type 0} (tells : D → Bool) (moment : D → ℕ)
    (left_since : D → ℕ → List ℕ → Type 0) (n : ℕ) (first rest : List D) (s : ℕ) (logged : Logged)
    → length first ≡ n → 1 ≤ s → s ≤ n
    → MayReadDisk tells moment left_since (first ++ rest) s logged
    → MayReadDisk tells moment left_since first s logged
reads_first tells moment left_since n first rest s logged many low high reads = record {
  disk = reads.disk;
  at = of_first first rest (s - 1) reads.disk (omega (arith, low, high, many)) reads.at;
  told = reads.told;
  reads = reads.reads;
}

over_whole : {D : Type 0} (tells : D → Bool) (moment : D → ℕ)
    (left_since : D → ℕ → List ℕ → Type 0) (script : Script) (failed : ℕ → Type 0)
    (left : DisksLeft) (run : RunRecord) (first rest : List D)
    → left.keep ≡ KeepRun tells moment left_since (first ++ rest)
    → length first ≡ script.nodes → IsScript script
    → ((s : ℕ) → failed s → FailedAmong script.nodes left.failed s)
    → IsRunWithLogs script failed (MayReadDisk tells moment left_since first) run
    → AreLogs tells moment left_since first
    → IsRunOver script left run
over_whole tells moment left_since script failed left run first rest keep many is_script so is
    logs =
    record {
      recorded = record {
        halts = is.recorded.halts;
        is_run = is.recorded.is_run;
        known =
            known_by script (given is.recorded.halts) failed (FailedAmong script.nodes left.failed)
            so is.recorded.known;
      };
      kept =
          subst (λ (keep : Script → Halting → Type 0). keep script (given is.recorded.halts))
          (sym keep) kept;
    }
  where
    of_run : (s : ℕ) (logged : Logged) → 1 ≤ s → s ≤ script.nodes
        → MayReadDisk tells moment left_since (first ++ rest) s logged
        → MayReadDisk tells moment left_since first s logged
    of_run s logged low high reads =
        reads_first tells moment left_since script.nodes first rest s logged many low high reads

    kept : KeepRun tells moment left_since (first ++ rest) script (given is.recorded.halts)
    kept = record {
      logs =
          subst (λ (disks : List _). AreLogs tells moment left_since disks)
          (sym (take_at first rest script.nodes many)) logs;
      kept = λ s logged low high awake reads.
          kept_of script is.recorded.halts is_script s logged
          (is.logs s logged low high awake (of_run s logged low high reads));
      halted = λ s low high on.
          let either = is.halted s low high on in record {
            taken = record {
              with_it = either.taken.halts;
              number = either.taken.number;
              put_in = either.taken.put_in;
            };
            either = λ logged reads.
                either_of script is.recorded.halts either.taken.halts is_script s logged
                (either.either logged (of_run s logged low high reads));
          };
    }

-- so it is of the disks of which the first ones were those of the run
pub run_over : {D E : Type 0} (tells : D → Bool) (faults_of : D → ℕ) (moment : D → ℕ)
    (left_since : D → ℕ → List ℕ → Type 0) (script : Script) (failed : ℕ → Type 0)
    (disks later whole : List D) (r : Result RunRecord E)
    → IsOverFirst tells faults_of script.nodes disks later whole → IsScript script
    → ((s : ℕ) → failed s → FailedAmong script.nodes (FailedAt faults_of disks whole) s)
    → IfOk r (IsRunWithLogs script failed (MayReadDisk tells moment left_since later))
    → OnOk r (AreLogs tells moment left_since later)
    → IfOk r (IsRunOver script (disks_left tells faults_of moment left_since disks whole))
run_over tells faults_of moment left script failed disks later whole (Err e) over is_script so is
    logs = tt
run_over tells faults_of moment left script failed disks later whole (Ok r) over is_script so is
    logs =
    over_whole tells moment left script failed (disks_left tells faults_of moment left disks whole)
    r later (drop script.nodes disks) (ap (KeepRun tells moment left) over.all)
    (first_length tells faults_of script.nodes disks later over.enough over.back) is_script so is
    logs
