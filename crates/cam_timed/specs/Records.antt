-- The record of a run by time has its events with the oldest first.
use Rattle.std.specs.Prelude.{◌≡◌, ℕ, List, reverse}
use Rattle.cam_timed.specs.declared.TimedScript.{TimedScript}
use Rattle.cam_timed.specs.declared.TimedRecord.{TimedRecord}
use Rattle.cam_timed.specs.TimedScripts.{timed_run}
use Rattle.cam_timed.specs.TimedReport.{timed_report}

-- the report of a record
abbrev pub record_text : TimedScript → TimedRecord → List ℕ
record_text script made =
    timed_report script.script.objects script.script.labels (reverse made.trace) made.marks

-- The record is that of the script's run by time.
pub record IsRecordOf (script : TimedScript) (made : TimedRecord) : Type 0 where
  pub trace : reverse made.trace ≡ (timed_run script).trace
  pub marks : made.marks ≡ (timed_run script).marks
