-- Each action of the run of an accepted script by time has its view in a legal history.
use Rattle.std.proofs.Common.{List, ℕ}
use Rattle.std.specs.Prelude.{Result, Ok, Err, IfOk}
use Rattle.cam_words.specs.declared.fault.ScriptFault.{ScriptFault}
use Rattle.cam_script.specs.Parse.{Gives}
use Rattle.cam_timed.specs.declared.TimedScript.{TimedScript}
use Rattle.cam_timed.specs.Law.{ViewsAreSound}
use Rattle.cam_timed.specs.TimedRange.{IsTimedScript}
use Rattle.cam_timed.specs.TimedGrammar.{timed_nothing, read_timed_lines}
use Rattle.cam_timed.proofs.ScriptRuns.{each_script_view}
use Rattle.cam_timed.proofs.TimedAccepts.{gives_script}

viewed : (result : Result TimedScript ScriptFault) → IfOk result IsTimedScript → IfOk result ViewsAreSound
viewed (Ok script) is = each_script_view script is.in_range
viewed (Err fault) is = tt

pub gives_views : (lines : List (List ℕ)) (result : Result TimedScript ScriptFault) → Gives result (read_timed_lines timed_nothing 1 lines) → IfOk result ViewsAreSound
gives_views lines result gives = viewed result (gives_script lines result gives)
