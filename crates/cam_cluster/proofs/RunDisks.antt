-- The disks of a run: what failed of them by itself, from before they are formatted until they are
-- taken out of their nodes.
use Rattle.std.proofs.Common.{◌≡◌, ◌⊎◌, inl, inr, ℕ, Bool, true, false, List, [], ◌∷◌}
use Rattle.std.proofs.Common.{◌≤◌, refl, sym, ◌∙◌, subst, true≢false}
use Rattle.std.specs.Prelude.{map, Result, Ok, Err, IfErr, OnOk}
use Rattle.std.specs.List.{AllByRecursion}
use Rattle.cam_event.specs.declared.RunRecord.{RunRecord}
use Rattle.cam_node.specs.Log.{Logged}
use Rattle.cam_runs.specs.Halts.{Halting, given}
use Rattle.cam_script.specs.declared.Script.{Script}
use Rattle.cam_cluster.specs.declared.fault.RunFault.{RunFault}
use Rattle.cam_cluster.specs.declared.fault.RunFault.TheVariants as faults
use Rattle.cam_cluster.specs.declared.works.failing.Ending.TheVariants as endings
use Rattle.cam_cluster.specs.declared.works.failing.Failed.{Failed}
use Rattle.cam_cluster.specs.Failing.{FailedIn, GoOn, IsOfKnown, failure, nothing_failed}
use Rattle.cam_cluster.specs.HandedBack.{AreHandedBack, AreLater, HasFailed, NamesFailed}
use Rattle.cam_cluster.specs.KnownHalts.{AreKnown}
use Rattle.cam_cluster.specs.WholeRuns.{IsRunWithLogs}
use Rattle.cam_cluster.specs.Works.{HasTellingDisk, MayGoOn, NodeFields, has_failed}
use Rattle.cam_cluster.proofs.BeforeFirst.{awake}
use Rattle.cam_cluster.proofs.Failures.{some_is_not}
use Rattle.cam_cluster.proofs.HandedBack.{failed_between, then_later}

-- where each disk tells what it holds
pub all_tell : {N : Type 0} (part : N → NodeFields) → ((node : N) → (part node).tells ≡ true)
    → (nodes : List N) → AllByRecursion HasTellingDisk (map part nodes)
all_tell part each [] = tt
all_tell part each (node ∷ nodes) = (each node, all_tell part each nodes)

-- what is told of what failed
pub told_none : (known : Failed) (nodes : List NodeFields) (result : Result (Unit {0}) RunFault)
    → OnOk result (known.ends ≡ endings.Nothing) → AllByRecursion HasTellingDisk nodes
    → OnOk result (MayGoOn known nodes)
told_none known nodes (Ok done) none all = (none, all)
told_none known nodes (Err fault) none all = tt

pub told_cause : (known : Failed) (result : Result (Unit {0}) RunFault)
    → IfErr result (λ (fault : RunFault). known.ends ≡ failure fault)
    → IfErr result (IsOfKnown known)
told_cause known (Ok done) is = tt
told_cause known (Err (faults.DiskFault s)) is = is
told_cause known (Err faults.NoMemory) is = tt

module _ {D : Type 0} (tells : D → Bool) (faults_of : D → ℕ) (before after : List D)
    (first last : List NodeFields)
    (founded : AreLater tells faults_of (λ (n : NodeFields). n.tells)
    (λ (n : NodeFields). n.failures) before first)
    (taken_out : AreLater (λ (n : NodeFields). n.tells) (λ (n : NodeFields). n.failures) tells
    faults_of last after) where
  -- So they are handed back.
  pub run_back : AreHandedBack (λ (n : NodeFields). n.tells) (λ (n : NodeFields). n.failures) first
      last
      → AreHandedBack tells faults_of before after
  run_back later =
      then_later _ _ _ _ _ _ _ _ _ (then_later _ _ _ _ _ _ _ _ _ founded later)
      taken_out

  module _ (known : Failed) (on : GoOn first nothing_failed last known) where
    -- A disk that is known to have failed did so by itself,
    pub run_failed : (s : ℕ) → FailedIn known s → HasFailed faults_of faults_of s before after
    run_failed s fell = by (on.known.disk s fell.0 fell.1)
      where
        by : (has_failed nothing_failed s ≡ true) ⊎ HasFailed (λ (n : NodeFields). n.failures)
            (λ (n : NodeFields). n.failures) s first last
            → HasFailed faults_of faults_of s before after
        by (inl was) = absurd (true≢false (sym was ∙ awake s))
        by (inr rose) =
            failed_between tells faults_of (λ (n : NodeFields). n.tells) (λ (n : NodeFields).
            n.failures) (λ (n : NodeFields). n.tells) (λ (n : NodeFields). n.failures) tells
            faults_of s before first last after founded rose taken_out

    -- and so did the one that the fault of the run names.
    pub run_cause : (fault : RunFault) → IsOfKnown known fault
        → NamesFailed faults_of before after fault
    run_cause (faults.DiskFault s) is = by (on.known.ends s is)
      where
        by : (nothing_failed.ends ≡ endings.Disk s) ⊎ FailedIn known s
            → HasFailed faults_of faults_of s before after
        by (inl same) = absurd (some_is_not (endings.Disk s) refl (sym same))
        by (inr fell) = run_failed s fell
    run_cause faults.NoMemory is = tt

pub from_nothing : (first last : List NodeFields) (start known : Failed) → start ≡ nothing_failed
    → GoOn first start last known → GoOn first nothing_failed last known
from_nothing first last start known is on = subst (λ (f : Failed). GoOn first f last known) is on

-- So the halts of the run are known by the disks that failed by themselves.
pub known_by : (script : Script) (halts : Halting) (failed of : ℕ → Type 0)
    → ((s : ℕ) → failed s → of s) → AreKnown script halts failed → AreKnown script halts of
known_by script halts failed of so known = record {
  stops = λ s low never. known.stops s low (λ fell. never (so s fell));
  one = λ none. known.one (λ s fell. none s (so s fell));
}

pub run_known : (script : Script) (failed of : ℕ → Type 0) (may_read : ℕ → Logged → Type 0)
    (result : RunRecord) → ((s : ℕ) → failed s → of s)
    → IsRunWithLogs script failed may_read result → IsRunWithLogs script of may_read result
run_known script failed of may_read result so is = record {
  recorded = record {
    halts = is.recorded.halts;
    is_run = is.recorded.is_run;
    known = known_by script (given is.recorded.halts) failed of so is.recorded.known;
  };
  logs = is.logs;
  halted = is.halted;
}
