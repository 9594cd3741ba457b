-- The headline, put together, of the run in which these inputs are halts.
use Rattle.std.proofs.Common.{◌≡◌, None, refl, ap, ◌∙◌}
use Rattle.std.specs.Prelude.{Result, Ok, Err, IfOk}
use Rattle.cam_event.specs.Pasts.{plain_all}
use Rattle.cam_event.specs.Readings.{by_pasts, by_knowledge}
use Rattle.cam_agree.proofs.Ran.{plain_ran}
use Rattle.cam_plain.specs.Legal.{Legal}
use Rattle.cam_words.specs.declared.fault.ScriptFault.{ScriptFault}
use Rattle.cam_script.specs.declared.Script.{Script}
use Rattle.cam_script.specs.Grammar.{read_script}
use Rattle.cam_script.proofs.Accepts.{accepted_is_script}
use Rattle.cam_serial.proofs.Laws.{replay}
use Rattle.cam_runs.specs.Running.{Running, has_number}
use Rattle.cam_runs.specs.InRange.{IsInRange}
use Rattle.cam_runs.specs.Halts.{Halting, by_stops}
use Rattle.cam_runs.specs.Standing.{Standing}
use Rattle.cam_runs.specs.HaltedLines.{run_halting}
use Rattle.cam_runs.specs.HaltedLaws.{IsHaltedRun}
use Rattle.cam_runs.proofs.Range.{script_in_range}
use Rattle.cam_runs.proofs.HaltedWhole.{halted_runs_are_runs, halted_readings_agree}
use Rattle.cam_runs.proofs.PlainHalts.{no_halt_is_the_run}
use Rattle.cam_cut.specs.Witness.{witness}
use Rattle.cam_runs.proofs.NoStops.{no_stops_no_halts}
use Rattle.cam_report.specs.Report.{report}
use Rattle.cam_report.specs.Traces.{trace_text, witness_text}
use Rattle.cam_headline.specs.Headline.{halted_run, halted_events, HasHaltedRun, HasOneRun}
use Rattle.cam_headline.specs.Headline.{Headline, HaltedHeadline, NoStopIsTheRun}
use Rattle.cam_headline.specs.Headline.{HaltedRunsKeepPromises, RunsKeepPromises}
use Rattle.cam_headline.proofs.HaltedRuns.{halted_legal, halted_views}
use Rattle.cam_headline.proofs.HaltedHeld.{halted_nodes_agree, halted_committed_is_covered}
use Rattle.cam_headline.proofs.KeptIndices.{logs_keep}
use Rattle.cam_headline.proofs.PlainFor.{texts_by}

-- what each run promises, with taken events
pub halted_runs_keep_promises : HaltedRunsKeepPromises
halted_runs_keep_promises objects taken t is = record {
  legal = legal;
  committed = replay objects (plain_all t) None legal;
  kept = λ a all. halted_committed_is_covered objects taken t a is all;
  views = λ a there. halted_views objects taken t a is there;
  agree = λ s r a. halted_nodes_agree objects taken t s r a is;
  restarts = λ s logged log. logs_keep objects taken t s logged is log;
}
  where
    legal : Legal objects (plain_all t)
    legal = halted_legal objects taken t is

-- and without
pub runs_keep_promises : RunsKeepPromises
runs_keep_promises objects t run =
    let ran = plain_ran objects t run in halted_runs_keep_promises objects ran.0 t ran.1

-- the run of a script in range
halted_run_holds : (script : Script) (halts : Halting) → IsInRange script
    → HasHaltedRun script halts
halted_run_holds script halts range = record {
  held = same;
  is_run = is;
  promises =
      halted_runs_keep_promises script.objects (has_number (halted_run script halts).taken)
      (halted_events script halts) is;
  reported = texts_by (report script.objects script.labels) made one same_running;
  traced = texts_by (trace_text script.labels) made one same_running;
  witnessed = λ a.
      texts_by (λ t left. witness_text script.labels (witness t a)) made one same_running;
}
  where
    made : Running
    made = (run_halting by_knowledge halts script).running

    one : Running
    one = (halted_run script halts).running

    is : IsHaltedRun script (halted_run script halts)
    is = halted_runs_are_runs script halts range

    same : run_halting by_knowledge halts script ≡ halted_run script halts
    same = halted_readings_agree script halts range

    same_running : made ≡ one
    same_running = ap (λ (st : Standing). st.running) same

pub halted_headline : HaltedHeadline
halted_headline bytes = by (read_script bytes) refl
  where
    by : (read : Result Script ScriptFault) → read_script bytes ≡ read
        → IfOk read (λ script. (halts : Halting) → HasHaltedRun script halts)
    by (Ok script) is = λ halts.
        halted_run_holds script halts
        (script_in_range script (accepted_is_script bytes script is))
    by (Err fault) is = tt

pub headline_holds : Headline
headline_holds bytes = by (read_script bytes) (halted_headline bytes)
  where
    by : (read : Result Script ScriptFault)
        → IfOk read (λ script. (halts : Halting) → HasHaltedRun script halts)
        → IfOk read HasOneRun
    by (Ok script) each = each by_stops
    by (Err fault) each = tt

-- without a stop line
pub no_stop_is_the_run : NoStopIsTheRun
no_stop_is_the_run script no_stop =
    ap (λ (st : Standing). st.running) (no_stops_no_halts by_pasts script no_stop)
    ∙ no_halt_is_the_run by_pasts script
