-- The texts of a run record, as the calls that write them see it: the script, the events with the oldest first, and the marks. Whatever
-- reading made the run, its texts follow from the record alone.
use Rattle.std.specs.Prelude.{ℕ, List, reverse}
use Rattle.cam_names.specs.declared.name.Name.{Name}
use Rattle.cam_event.specs.declared.RunRecord.{RunRecord}
use Rattle.cam_cut.specs.Witness.{witness}
use Rattle.cam_script.specs.declared.Script.{Script}
use Rattle.cam_report.specs.Report.{report}
use Rattle.cam_report.specs.Traces.{trace_text, witness_text}
use Rattle.cam_report.specs.Summary.{summary}

abbrev pub record_report : Script → RunRecord → List ℕ
record_report script run = report script.objects script.labels (reverse run.trace) run.marks

abbrev pub record_trace : Script → RunRecord → List ℕ
record_trace script run = trace_text script.labels (reverse run.trace) run.marks

abbrev pub record_witness : Script → RunRecord → Name → List ℕ
record_witness script run a = witness_text script.labels (witness (reverse run.trace) a)

-- of a script of so many steps, whose report has this digest
abbrev pub record_summary : RunRecord → ℕ → List ℕ → List ℕ
record_summary run steps digest = summary (reverse run.trace) steps digest
