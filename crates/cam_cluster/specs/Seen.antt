-- What a cluster is seen as: its script, what stands after the lines that it has taken, and at
-- which inputs nodes halted so far.
--
-- A halt is lost until the next restart of its node finds the entry in the log; from then on it was
-- taken, and its event stands in the trace at its place. So what stands is the run of the lines
-- with these halts, at each moment between lines.
use Rattle.std.specs.Prelude.{◌≡◌, ℕ, zero, suc, ◌+◌, List, [], ◌∷◌, drop, length, reverse, Some}
use Rattle.std.specs.Prelude.{slice_get}
use Rattle.cam_type.specs.declared.ObjectDecl.{ObjectDecl}
use Rattle.cam_event.specs.declared.Event.{Event}
use Rattle.cam_event.specs.declared.RunRecord.{RunRecord}
use Rattle.cam_event.specs.Readings.{Reading, by_pasts}
use Rattle.cam_script.specs.declared.Script.{Script}
use Rattle.cam_script.specs.declared.Statement.{Statement}
use Rattle.cam_script.specs.declared.Step.{Step}
use Rattle.cam_runs.specs.Halts.{Halt, Halting, given}
use Rattle.cam_runs.specs.Standing.{Standing, start, Setting}
use Rattle.cam_runs.specs.HaltedLines.{act, after_line, setting, run_with}

pub record Seen : Type 0 where
  pub script : Script
  pub standing : Standing
  pub halts : List Halt

-- how many lines it has taken
abbrev pub lines_taken : Seen → ℕ
lines_taken cluster = length cluster.standing.running.bound

-- what stands after the first steps of a script, so many; whether a later one restarts a node goes
-- by the whole script
abbrev pub run_first : Reading → Halting → List (List Statement) → ℕ → List Step → Standing
    → Standing
run_first reading halts bodies zero steps st = st
run_first reading halts bodies (suc n) [] st = st
run_first reading halts bodies (suc n) (step ∷ steps) st =
    run_first reading halts bodies n steps
    (after_line st step.line (act (setting reading halts step steps) bodies st step.act))

abbrev pub run_of_lines : (List ObjectDecl → Reading) → Script → List Halt → ℕ → Standing
run_of_lines reading script halts n =
    run_first (reading script.objects) (given halts) script.bodies n script.steps start

-- Between lines what stands is the run, by the pasts of events, of the lines that were taken, with
-- these halts. A line of many inputs in which memory ran out leaves a cluster that is not between
-- lines.
abbrev pub IsBetweenLines : Seen → Type 0
IsBetweenLines cluster =
    cluster.standing ≡ run_of_lines by_pasts cluster.script cluster.halts (lines_taken cluster)

-- the step that is taken next, and the lines after it
abbrev pub IsNextStep : Seen → Step → Type 0
IsNextStep cluster step = slice_get cluster.script.steps (lines_taken cluster) ≡ Some step

abbrev pub later_steps : Seen → List Step
later_steps cluster = drop (lines_taken cluster + 1) cluster.script.steps

-- how a line is taken by a reading, with the halts that are known after it
abbrev pub setting_in : (List ObjectDecl → Reading) → Seen → List Halt → Step → Setting
setting_in reading cluster halts step =
    setting (reading cluster.script.objects) (given halts) step (later_steps cluster)

-- A cluster that has taken all lines: the whole run, with its halts.
pub record HasRun (given_script : Script) (cluster : Seen) : Type 0 where
  pub script : cluster.script ≡ given_script
  pub standing : cluster.standing ≡ run_with by_pasts given_script cluster.halts

-- `trace` answers the events, the oldest first; `run` answers them with the marks.
abbrev pub IsTrace : Seen → List Event → Type 0
IsTrace cluster trace = trace ≡ reverse cluster.standing.running.trace

pub record IsRunRecord (cluster : Seen) (result : RunRecord) : Type 0 where
  pub trace : IsTrace cluster result.trace
  pub marks : result.marks ≡ cluster.standing.running.marks

-- All lines of a script, one after another, are its run with these halts; so a cluster that has
-- taken them all, and stands between lines, has run it.
abbrev pub LinesMakeTheRun : Type 0
LinesMakeTheRun =
    (reading : List ObjectDecl → Reading) (script : Script) (halts : List Halt)
    → run_of_lines reading script halts (length script.steps) ≡ run_with reading script halts

abbrev pub AllLinesAreTheRun : Type 0
AllLinesAreTheRun =
    (given_script : Script) (cluster : Seen) → cluster.script ≡ given_script
    → lines_taken cluster ≡ length given_script.steps → IsBetweenLines cluster
    → HasRun given_script cluster
