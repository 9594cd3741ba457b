-- The report of a text: that of the one run of the script that it spells.
use Rattle.std.specs.Prelude.{◌≡◌, ℕ, Bool, false, List, Option, Some, None, Result, Ok, Err, reverse}
use Rattle.std.specs.Option.{option_map_or}
use Rattle.cam_event.specs.declared.RunRecord.{RunRecord}
use Rattle.cam_event.specs.Readings.{by_pasts}
use Rattle.cam_runs.specs.Halts.{by_stops}
use Rattle.cam_runs.specs.HaltedLines.{run_halting}
use Rattle.cam_runs.specs.Standing.{Standing}
use Rattle.cam_report.specs.Report.{report}
use Rattle.cam_script.specs.declared.Script.{Script}
use Rattle.cam_script.specs.Grammar.{read_script}
use Rattle.cam_words.specs.declared.fault.ScriptFault.{ScriptFault}
use Rattle.cam_whatif.specs.Texts.{has_line}

-- what stands after all lines of a script, in the one run of it that the step rules define
abbrev pub one_run : Script → Standing
one_run script = run_halting by_pasts by_stops script

-- the record of that run
pub record IsOneRun (script : Script) (run : RunRecord) : Type 0 where
  pub trace : reverse run.trace ≡ (one_run script).running.trace
  pub marks : run.marks ≡ (one_run script).running.marks

-- its report
abbrev pub the_report : Script → List ℕ
the_report script =
    report script.objects script.labels (one_run script).running.trace (one_run script).running.marks

-- the report of the script that is read in a text; none where the text is refused
abbrev pub reported : Result Script ScriptFault → Option (List ℕ)
reported (Ok script) = Some (the_report script)
reported (Err fault) = None

abbrev pub report_of : List ℕ → Option (List ℕ)
report_of text = reported (read_script text)

-- whether a text is accepted and its report has a line
abbrev pub shows : List ℕ → List ℕ → Bool
shows line text = option_map_or (has_line line) (report_of text) false
