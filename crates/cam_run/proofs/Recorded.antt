-- The record of a run is that of a run of its script; what is told of the record is told of that run.
use Rattle.std.proofs.Common.{◌≡◌, ℕ, List, Option, refl, ap, ◌∙◌, sym, subst}
use Rattle.std.specs.Prelude.{reverse}
use Rattle.std.proofs.lemmas.List.{reverse-reverse}
use Rattle.cam_know.specs.declared.Reason.{Reason}
use Rattle.cam_event.specs.declared.Event.{Event}
use Rattle.cam_event.specs.declared.Mark.{Mark}
use Rattle.cam_event.specs.declared.RunRecord.{RunRecord}
use Rattle.cam_event.specs.Readings.{by_pasts}
use Rattle.cam_runs.specs.HaltedLines.{run_with}
use Rattle.cam_runs.specs.Running.{has_number}
use Rattle.cam_runs.specs.Halts.{given}
use Rattle.cam_runs.specs.Standing.{Standing}
use Rattle.cam_runs.proofs.HaltedWhole.{halted_runs_are_runs}
use Rattle.cam_runs.proofs.Range.{script_in_range}
use Rattle.cam_script.specs.declared.Script.{Script}
use Rattle.cam_script.specs.Law.{IsScript}
use Rattle.cam_why.specs.Causes.{IsWhole, stop_at}
use Rattle.cam_why.specs.Passes.{Refuses}
use Rattle.cam_why.specs.declared.fault.WhyFault.{WhyFault}
use Rattle.cam_why.specs.declared.fault.WhyFault.TheVariants.{NoSuchStop}
use Rattle.cam_why.proofs.Stops.{runs_are_whole}
use Rattle.cam_report.specs.Whys.{IsWhyText}
use Rattle.cam_cluster.specs.WholeRuns.{IsRecordOf}
use Rattle.cam_run.specs.declared.question.Question.{Question}
use Rattle.cam_run.specs.Answer.{IsToldRun}
use Rattle.cam_run.specs.Disks.{DisksLeft, FailedAmong, IsRunOver}
use Rattle.cam_run.specs.Texts.{no_stop_text}
use Rattle.cam_run.specs.Told.{IsOfStop, IsTold}

module _ (script : Script) (disks : DisksLeft) (run : RunRecord) (over : IsRunOver script disks run)
  where
    abbrev is : IsRecordOf script (FailedAmong script.nodes disks.failed) run
    is = over.recorded

    abbrev made : Standing
    made = run_with by_pasts script is.halts

    events_are : reverse run.trace ≡ made.running.trace
    events_are =
        ap (λ (t : List Event). reverse t) is.is_run.trace ∙ reverse-reverse made.running.trace

    -- The events of the record are those of a run,
    pub is_whole : IsScript script → IsWhole (reverse run.trace)
    is_whole is_script =
        subst (λ (t : List Event). IsWhole t) (sym events_are)
        (runs_are_whole.halted script.objects (has_number made.taken) made.running.trace
        (halted_runs_are_runs script (given is.halts) (script_in_range script is_script)))

    -- and what is told of the record is told of the run.
    pub told_of_run : (question : Question) (status : ℕ) (text : List ℕ)
        → IsTold question script (reverse run.trace) run.marks status text
        → IsToldRun question script disks status text
    told_of_run question status text told = record {
      halts = given is.halts;
      known = is.known;
      told =
          subst (λ (z : List Event × List Mark). IsTold question script z.0 z.1 status text)
          (λ i. (events_are i, is.is_run.marks i)) told;
      kept = over.kept;
    }

-- why an event stopped an action, by the record
pub has_stop : (run : RunRecord) (event : ℕ) (text : List ℕ) → IsWhole (reverse run.trace)
    → (IsWhole (reverse run.trace) → IsWhyText (reverse run.trace) event text)
    → IsOfStop (stop_at (reverse run.trace) event) (reverse run.trace) event 0 text
has_stop run event text whole told =
    let why : IsWhyText (reverse run.trace) event text = told whole in
    subst (λ (o : Option Reason). IsOfStop o (reverse run.trace) event 0 text)
    (sym why.answers.stops) (refl, why)

-- an event that stopped no action, by the record
pub has_no_stop : (run : RunRecord) (event : ℕ) (fault : WhyFault) (text : List ℕ)
    → IsWhole (reverse run.trace) → fault ≡ NoSuchStop
    → (IsWhole (reverse run.trace) → Refuses (reverse run.trace) event fault)
    → text ≡ no_stop_text
    → IsOfStop (stop_at (reverse run.trace) event) (reverse run.trace) event 8 text
has_no_stop run event fault text whole stopless none told =
    let refused : Refuses (reverse run.trace) event NoSuchStop =
    subst (λ (f : WhyFault). Refuses (reverse run.trace) event f) stopless (none whole) in
    subst (λ (o : Option Reason). IsOfStop o (reverse run.trace) event 8 text) (sym refused)
    (refl, told)
