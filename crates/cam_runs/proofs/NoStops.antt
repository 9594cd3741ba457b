-- Without a line that stops a disk the one run by the stop lines is the run without halts.
use Rattle.std.proofs.Common.{◌≡◌, ℕ, eqb, Bool, true, false, ◌&&◌}
use Rattle.std.proofs.Common.{if◌then◌else◌, List, [], ◌∷◌, ◌++◌, None}
use Rattle.std.proofs.Common.{refl, sym, ap, ◌∙◌, subst}
use Rattle.std.specs.List.{AllByRecursion}
use Rattle.std.proofs.lemmas.List.{append-nil}
use Rattle.cam_event.specs.Readings.{Reading}
use Rattle.cam_script.specs.declared.Act.{Act}
use Rattle.cam_script.specs.declared.Statement.{Statement}
use Rattle.cam_script.specs.declared.Step.{Step}
use Rattle.cam_runs.specs.Halts.{Turn, Input, Stop, Restart, Halting, given, by_stops}
use Rattle.cam_runs.specs.Halts.{after_append, calls_left, stopped_append}
use Rattle.cam_runs.specs.Standing.{Standing, Setting, start}
use Rattle.cam_runs.specs.HaltedLines.{act, after_line}
use Rattle.cam_runs.specs.HaltedLines.{run_steps, run_with, setting}
use Rattle.cam_runs.specs.Stops.{IsNoStop, NoStopsNoHalts}
use Rattle.cam_runs.proofs.LinesAdded.{act_adds}
use Rattle.cam_runs.proofs.LinesGrow.{steps_run}
use Rattle.cam_runs.proofs.TurnsAdded.{Adds, adds_both, adds_none}

-- a turn that stops no disk
abbrev StopsNone : Turn → Type 0
StopsNone (Input s line w again) = Unit {0}
StopsNone (Stop s calls) = ⊥
StopsNone (Restart s) = Unit {0}

module _ (reading : Reading) (halts : Halting) (bodies : List (List Statement)) where
  no_stops_added : (steps : List Step) (st : Standing)
      → AllByRecursion (λ (step : Step). IsNoStop step.act) steps
      → Adds StopsNone st (run_steps reading halts bodies steps st)
  no_stops_added [] st each = adds_none StopsNone st
  no_stops_added (step ∷ steps) st each =
      let c : Setting = setting reading halts step steps in
      let one : Standing = after_line st step.line (act c bodies st step.act) in
      adds_both StopsNone st one (run_steps reading halts bodies steps one)
      (act_adds c StopsNone bodies st step.line step.act
      (record {
        puts = λ m w. tt;
        restarts = λ m. tt;
        stops = λ m calls is. subst (λ (does : Act). IsNoStop does) is each.0;
      }))
      (no_stops_added steps one each.1)

none_left : (turns : List Turn) (s : ℕ) → AllByRecursion StopsNone turns → calls_left turns s ≡ None
none_left [] s none = refl
none_left (Input m line w again ∷ before) s none = by (eqb m s && w) (none_left before s none.1)
  where
    by : (b : Bool) → calls_left before s ≡ None
        → (if b then after_append (calls_left before s) else calls_left before s) ≡ None
    by true rest = ap after_append rest
    by false rest = rest
none_left (Stop m calls ∷ before) s none = absurd none.0
none_left (Restart m ∷ before) s none = by (eqb m s) (none_left before s none.1)
  where
    by : (b : Bool) → calls_left before s ≡ None
        → (if b then None else calls_left before s) ≡ None
    by true rest = refl
    by false rest = rest

behind : (more past : List Turn) (t : Turn) → AllByRecursion StopsNone (more ++ (t ∷ past))
    → AllByRecursion StopsNone past
behind [] past t none = none.1
behind (m ∷ more) past t none = behind more past t none.1

pub no_stops_no_halts : NoStopsNoHalts
no_stops_no_halts reading script no_stop =
    sym ((steps_run (reading script.objects) (given []) by_stops script.bodies script.steps
    start).same
    (λ more past s line w again is.
    sym (by past s w again
    (none_left past s (behind more past (Input s line w again)
    (subst (AllByRecursion StopsNone) is none))))))
  where
    adds : Adds StopsNone start (run_with reading script [])
    adds =
        no_stops_added (reading script.objects) (given []) script.bodies script.steps start
        no_stop

    none : AllByRecursion StopsNone (run_with reading script []).turns
    none = subst (AllByRecursion StopsNone) (sym (adds.is ∙ append-nil adds.more)) adds.each

    by : (past : List Turn) (s : ℕ) (w again : Bool) → calls_left past s ≡ None
        → by_stops past s w again ≡ None
    by past s false again left = refl
    by past s true again left = ap (λ o. stopped_append o again) left
