-- The variables of a script's lines stand for actions whose homes are among its nodes.
use Rattle.std.specs.Prelude.{ℕ, List}
use Rattle.cam_event.specs.Readings.{by_pasts}
use Rattle.cam_runs.specs.Halts.{Halt, Halting}
use Rattle.cam_runs.specs.HaltedLines.{after_line}
use Rattle.cam_runs.specs.Standing.{Standing}
use Rattle.cam_runs.specs.UnderHalts.{IsNextStep, IsUnderHalts, act_by}
use Rattle.cam_script.specs.declared.Script.{Script}
use Rattle.cam_script.specs.declared.Step.{Step}
use Rattle.cam_script.specs.Law.{IsScript}
use Rattle.cam_cluster.specs.Seen.{run_of_lines}
use Rattle.cam_cluster.specs.VariableLines.{AreAtNodes}

-- They stay so with each line,
abbrev pub LinesStayAtNodes : Type 0
LinesStayAtNodes =
    (script : Script) (st : Standing) (step : Step) (halts : Halting) (later : List Step)
    → IsScript script → IsUnderHalts script st → IsNextStep script st step
    → AreAtNodes script.nodes st.running.bound
    → AreAtNodes script.nodes
    (after_line st step.line (act_by by_pasts halts later script st step)).running.bound

-- and are so after each number of lines, whichever inputs are halts.
abbrev pub RunsAreAtNodes : Type 0
RunsAreAtNodes =
    (script : Script) (halts : List Halt) (n : ℕ) → IsScript script
    → AreAtNodes script.nodes (run_of_lines by_pasts script halts n).running.bound
