-- The laws of the run of a script: it is a run, and both readings give the same, line by line.
--
-- By pasts a node goes by all that stands in the past of its event; so the rules are stated, and over it the theorems on views and on the
-- serial order stand. By knowledge a node goes by what its letters brought; so the program works.
use Rattle.std.specs.Prelude.{◌≡◌, ℕ, length, Some, slice_get}
use Rattle.cam_event.specs.Readings.{by_pasts, by_knowledge}
use Rattle.cam_event.specs.Runs.{IsRun}
use Rattle.cam_script.specs.declared.Step.{Step}
use Rattle.cam_script.specs.declared.Script.{Script}
use Rattle.cam_script.specs.Law.{IsScript}
use Rattle.cam_runs.specs.Running.{Running, start}
use Rattle.cam_runs.specs.Run.{act, after_line, run, run_of_first}
use Rattle.cam_runs.specs.InRange.{IsInRange}
use Rattle.cam_runs.specs.UnderWay.{IsUnderWay}

-- A script that the grammar accepts is in range.
abbrev pub AcceptedAreInRange : Type 0
AcceptedAreInRange = (script : Script) → IsScript script → IsInRange script

-- The step that is taken next: each line has taken one place among the variables.
abbrev pub IsNext : Script → Running → Step → Type 0
IsNext script r step = slice_get script.steps (length r.bound) ≡ Some step

-- What stands at first is under way, and so is what comes after the next line, by the pasts.
abbrev pub StartIsUnderWay : Type 0
StartIsUnderWay = (script : Script) → IsUnderWay script start

abbrev pub LinesLeadOn : Type 0
LinesLeadOn =
    (script : Script) (r : Running) (step : Step) → IsInRange script → IsUnderWay script r → IsNext script r step
    → IsUnderWay script (after_line r step.line (act (by_pasts script.objects) script.bodies r step.line step.act))

-- So after each number of lines, and at the end, the trace is a run by the pasts: each event is the next one for an input that may come.
abbrev pub BeginningsAreRuns : Type 0
BeginningsAreRuns = (script : Script) (n : ℕ) → IsInRange script → IsRun script.objects (run_of_first by_pasts n script).trace

abbrev pub RunsAreRuns : Type 0
RunsAreRuns = (script : Script) → IsInRange script → IsRun script.objects (run by_pasts script).trace

-- The next line comes to the same by both readings: the same refusal, or the same that it leads to.
abbrev pub LinesAgree : Type 0
LinesAgree =
    (script : Script) (r : Running) (step : Step) → IsInRange script → IsUnderWay script r → IsNext script r step
    → act (by_knowledge script.objects) script.bodies r step.line step.act ≡ act (by_pasts script.objects) script.bodies r step.line step.act

-- So both give the same after each number of lines, and at the end.
abbrev pub BeginningsAgree : Type 0
BeginningsAgree = (script : Script) (n : ℕ) → IsInRange script → run_of_first by_knowledge n script ≡ run_of_first by_pasts n script

abbrev pub ReadingsAgree : Type 0
ReadingsAgree = (script : Script) → IsInRange script → run by_knowledge script ≡ run by_pasts script
