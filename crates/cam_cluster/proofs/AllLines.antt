-- All lines of a script, one after another, are its run.
use Rattle.std.proofs.Common.{◌≡◌, List, [], ◌∷◌, length, refl, ◌∙◌}
use Rattle.cam_event.specs.Readings.{Reading, by_pasts}
use Rattle.cam_script.specs.declared.Statement.{Statement}
use Rattle.cam_script.specs.declared.Step.{Step}
use Rattle.cam_runs.specs.Halts.{Halting, given}
use Rattle.cam_runs.specs.Standing.{Standing, start}
use Rattle.cam_runs.specs.HaltedLines.{act, after_line, setting, run_steps}
use Rattle.cam_cluster.specs.Seen.{run_first, run_of_lines, LinesMakeTheRun}
use Rattle.cam_cluster.specs.Seen.{AllLinesAreTheRun}

all_steps : (reading : Reading) (halts : Halting) (bodies : List (List Statement))
    (steps : List Step) (st : Standing)
    → run_first reading halts bodies (length steps) steps st
    ≡ run_steps reading halts bodies steps st
all_steps reading halts bodies [] st = refl
all_steps reading halts bodies (step ∷ steps) st =
    all_steps reading halts bodies steps
    (after_line st step.line (act (setting reading halts step steps) bodies st step.act))

pub lines_make_the_run : LinesMakeTheRun
lines_make_the_run reading script halts =
    all_steps (reading script.objects) (given halts) script.bodies script.steps start

pub all_lines_are_the_run : AllLinesAreTheRun
all_lines_are_the_run given_script cluster is all between = record {
  script = is;
  standing =
      between
      ∙ (λ i. run_of_lines by_pasts (is i) cluster.halts (all i))
      ∙ lines_make_the_run by_pasts given_script cluster.halts;
}
