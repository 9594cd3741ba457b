-- The record of a run in which no disk failed is that of the one run.
use Rattle.std.proofs.Common.{◌≡◌, ◌∙◌, ℕ, ◌-◌, List, Some, ap, ap₂, arith, reverse, slice_get, subst, sym}
use Rattle.std.specs.List.{All}
use Rattle.std.proofs.lemmas.List.{reverse-reverse}
use Rattle.std.proofs.lemmas.List.Elements.{All-get_or}
use Rattle.std.proofs.lemmas.Option.{get_or_from_slice_get, slice_get_within}
use Rattle.cam_event.specs.declared.Event.{Event}
use Rattle.cam_event.specs.declared.Mark.{Mark}
use Rattle.cam_event.specs.declared.RunRecord.{RunRecord}
use Rattle.cam_event.specs.Readings.{by_pasts}
use Rattle.cam_runs.specs.Halts.{by_stops, given}
use Rattle.cam_runs.specs.HaltedLines.{run_halting, run_with}
use Rattle.cam_runs.specs.Standing.{Standing}
use Rattle.cam_script.specs.declared.Script.{Script}
use Rattle.cam_cluster.specs.HandedBack.{HasFailed}
use Rattle.cam_cluster.specs.WholeRuns.{IsRecordOf}
use Rattle.cam_report.specs.Records.{record_report}
use Rattle.cam_report.specs.Report.{report}
use Rattle.cam_whatif.specs.Reports.{the_report, IsOneRun}

all_at : {D : Type 0} (faults : D → ℕ) (disks : List D) (at : ℕ) (disk : D)
    → All (λ d. faults d ≡ 0) disks → slice_get disks at ≡ Some disk → faults disk ≡ 0
all_at faults disks at disk all is =
    ap faults (sym (get_or_from_slice_get disks at disk disk is))
    ∙ All-get_or (λ d. faults d ≡ 0) disks at disk (slice_get_within disks at disk is) all

none_failed : {D : Type 0} (faults : D → ℕ) (before after : List D) (s : ℕ)
    → All (λ d. faults d ≡ 0) after → HasFailed faults faults s before after → ⊥
none_failed faults before after s all failed =
    let no : faults failed.new ≡ 0 = all_at faults after (s - 1) failed.new all failed.is in
    absurd (omega (arith, no, failed.rose))

pub one_run_of : {D : Type 0} (faults : D → ℕ) (before after seen : List D) (script : Script) (run : RunRecord)
    → seen ≡ after → All (λ d. faults d ≡ 0) seen
    → IsRecordOf script (λ s. HasFailed faults faults s before after) run → IsOneRun script run
one_run_of faults before after seen script run same all is =
    let none : All (λ d. faults d ≡ 0) after = subst (λ ds. All (λ d. faults d ≡ 0) ds) same all in
    let one : run_halting by_pasts (given is.halts) script ≡ run_halting by_pasts by_stops script
    = is.known.one (λ s failed. none_failed faults before after s none failed) in
    record {
      trace =
          ap (λ (t : List Event). reverse t) is.is_run.trace
          ∙ reverse-reverse (run_with by_pasts script is.halts).running.trace
          ∙ ap (λ (st : Standing). st.running.trace) one;
      marks = is.is_run.marks ∙ ap (λ (st : Standing). st.running.marks) one;
    }

-- the report of the record is that of the one run
pub report_of_record : (script : Script) (run : RunRecord) → IsOneRun script run
    → record_report script run ≡ the_report script
report_of_record script run is =
    ap₂ (λ (t : List Event) (marks : List Mark). report script.objects script.labels t marks) is.trace is.marks
