-- The actions that work at a body have their homes among the script's nodes.
use Rattle.std.specs.Prelude.{ℕ, List}
use Rattle.std.specs.List.{AllByRecursion}
use Rattle.cam_names.specs.declared.name.Name.{Name}
use Rattle.cam_event.specs.Readings.{by_pasts}
use Rattle.cam_runs.specs.Halts.{Halt, Halting}
use Rattle.cam_runs.specs.HaltedLines.{after_line}
use Rattle.cam_runs.specs.Standing.{Standing}
use Rattle.cam_runs.specs.UnderHalts.{IsNextStep, act_by}
use Rattle.cam_script.specs.declared.Script.{Script}
use Rattle.cam_script.specs.declared.Step.{Step}
use Rattle.cam_script.specs.Law.{IsScript}
use Rattle.cam_cluster.specs.Seen.{run_of_lines}
use Rattle.cam_cluster.specs.VariableLines.{IsAtNode}

-- the actions to which these bodies were given
abbrev pub BodiesAreAtNodes : ℕ → List (Name × ℕ) → Type 0
BodiesAreAtNodes nodes given = AllByRecursion (λ (entry : Name × ℕ). IsAtNode nodes entry.0) given

-- They stay so with each line,
abbrev pub BodiesStayAtNodes : Type 0
BodiesStayAtNodes =
    (script : Script) (st : Standing) (step : Step) (halts : Halting) (later : List Step)
    → IsScript script → IsNextStep script st step
    → BodiesAreAtNodes script.nodes st.running.bodies
    → BodiesAreAtNodes script.nodes
    (after_line st step.line (act_by by_pasts halts later script st step)).running.bodies

-- and are so after each number of lines, whichever inputs are halts.
abbrev pub RunsHaveBodiesAtNodes : Type 0
RunsHaveBodiesAtNodes =
    (script : Script) (halts : List Halt) (n : ℕ) → IsScript script
    → BodiesAreAtNodes script.nodes (run_of_lines by_pasts script halts n).running.bodies
