-- A play ends by its rule, with the first round that makes no event, and never because it is out of
-- rounds: the requests of bodies count among the 512 steps of a script.
use Rattle.std.specs.Prelude.{◌≡◌, List, [], ◌∷◌, ◌++◌}
use Rattle.cam_event.specs.Readings.{by_pasts, Reading}
use Rattle.cam_script.specs.declared.Script.{Script}
use Rattle.cam_script.specs.declared.Statement.{Statement}
use Rattle.cam_script.specs.declared.Step.{Step}
use Rattle.cam_script.specs.Law.{IsScript}
use Rattle.cam_runs.specs.HaltedLines.{act, after_line, setting}
use Rattle.cam_runs.specs.HaltedPlaying.{play, round}
use Rattle.cam_runs.specs.Halts.{Halting}
use Rattle.cam_runs.specs.Standing.{start, Setting, Standing}

-- what stands after some steps, where others follow
abbrev pub standing_after :
    Reading → Halting → List (List Statement) → List Step → List Step → Standing → Standing
standing_after reading halts bodies [] later st = st
standing_after reading halts bodies (step ∷ steps) later st =
    standing_after reading halts bodies steps later
    (after_line st step.line (act (setting reading halts step (steps ++ later)) bodies st step.act))

-- One more round changes nothing.
abbrev pub IsOver : Setting → List (List Statement) → Standing → Type 0
IsOver c bodies st = round c bodies st ≡ st

-- So it is after a play at each step of an accepted script, whichever inputs are halts.
abbrev pub PlaysAreOver : Type 0
PlaysAreOver =
    (script : Script) (halts : Halting) (earlier : List Step) (step : Step) (later : List Step)
    → IsScript script → script.steps ≡ earlier ++ step ∷ later
    → IsOver (setting (by_pasts script.objects) halts step later) script.bodies
    (play (setting (by_pasts script.objects) halts step later) script.bodies
    (standing_after (by_pasts script.objects) halts script.bodies earlier (step ∷ later) start))
