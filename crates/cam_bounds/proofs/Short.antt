-- The runs of accepted scripts are short.
use Rattle.std.proofs.Common.{◌≡◌, ℕ, ◌≤◌, Bool, true, List, [], ◌∷◌, ◌++◌, length, Some, None, refl, sym, ap, ◌∙◌, subst, arith}
use Rattle.std.specs.List.{list_all}
use Rattle.std.proofs.lemmas.Bool.{and_from, and_parts}
use Rattle.std.proofs.lemmas.List.{append-nil}
use Rattle.cam_names.specs.declared.name.Name.{Name}
use Rattle.cam_names.specs.Names.{home_node}
use Rattle.cam_event.specs.Readings.{by_knowledge, by_pasts, Reading}
use Rattle.cam_event.specs.Runs.{IsNode}
use Rattle.cam_script.specs.declared.Script.{Script}
use Rattle.cam_script.specs.declared.Statement.{Statement}
use Rattle.cam_script.specs.declared.Step.{Step}
use Rattle.cam_script.specs.Law.{sizes_of, spent_in, IsScript}
use Rattle.cam_script.specs.SoFar.{Size}
use Rattle.cam_runs.specs.HaltedLines.{act, after_line, run_halting, run_steps, setting}
use Rattle.cam_runs.specs.Halts.{given, Halting}
use Rattle.cam_runs.specs.InRange.{is_act, IsInRange}
use Rattle.cam_runs.specs.PlaysEnd.{standing_after}
use Rattle.cam_runs.specs.Running.{Running}
use Rattle.cam_runs.specs.Standing.{start, Standing}
use Rattle.cam_runs.proofs.BodyCosts.{has_costs}
use Rattle.cam_runs.proofs.HaltedWhole.{halted_readings_agree}
use Rattle.cam_runs.proofs.PlainHalts.{no_halt_is_the_run}
use Rattle.cam_runs.proofs.Range.{script_in_range}
use Rattle.cam_bounds.specs.Bounds.{most_events, BeginningsAreShort, HaltedRunsAreShort, IsShort, RunsAreShort}
use Rattle.cam_bounds.proofs.Lines.{steps_go}

-- of steps that pass, the first ones do, and cost no more than all
first_pass : (test : Step → Bool) (one other : List Step) → list_all test (one ++ other) ≡ true
    → list_all test one ≡ true
first_pass test [] other h = refl
first_pass test (step ∷ one) other h =
    let both = and_parts (test step) (list_all test (one ++ other)) h in
    and_from (test step) (list_all test one) both.0 (first_pass test one other both.1)

first_cost : (sizes : List Size) (one other : List Step)
    → spent_in sizes one ≤ spent_in sizes (one ++ other)
first_cost sizes [] other = omega arith
first_cost sizes (step ∷ one) other =
    let rest = first_cost sizes one other in omega (arith, rest)

nobody : (a : Name) (n : ℕ) → None ≡ Some n → IsNode (home_node a)
nobody a n h = cc

pub beginnings_are_short : BeginningsAreShort
beginnings_are_short script halts earlier later is steps =
    let range : IsInRange script = script_in_range script is in
    let sizes = sizes_of script in
    let passes = first_pass (λ (step : Step). is_act script step.act) earlier later
    (subst (λ (all : List Step). list_all (λ (step : Step). is_act script step.act) all ≡ true) steps
    range.0) in
    let goes = steps_go sizes script (has_costs script is) range halts earlier later start nobody
    passes in
    let spends = goes.spends.less in
    let events = goes.spends.events in
    let first = first_cost sizes earlier later in
    let limit = subst (λ (all : List Step). spent_in sizes all ≤ 512) steps is.step_limit in
    record {
      inputs = omega (arith, spends, first, limit);
      events = omega (arith, events);
    }

-- all steps are the whole run
whole : (reading : Reading) (halts : Halting) (bodies : List (List Statement)) (steps : List Step)
    (st : Standing)
    → standing_after reading halts bodies steps [] st ≡ run_steps reading halts bodies steps st
whole reading halts bodies [] st = refl
whole reading halts bodies (step ∷ steps) st =
    ap (λ (later : List Step). standing_after reading halts bodies steps []
    (after_line st step.line (act (setting reading halts step later) bodies st step.act)))
    (append-nil steps)
    ∙ whole reading halts bodies steps
    (after_line st step.line (act (setting reading halts step steps) bodies st step.act))

by_pasts_short : (script : Script) (halts : Halting) → IsScript script
    → IsShort (run_halting by_pasts halts script)
by_pasts_short script halts is =
    subst IsShort (whole (by_pasts script.objects) halts script.bodies script.steps start)
    (beginnings_are_short script halts script.steps [] is (sym (append-nil script.steps)))

pub halted_runs_are_short : HaltedRunsAreShort
halted_runs_are_short script halts is = (
  by_pasts_short script halts is,
  subst IsShort (sym (halted_readings_agree script halts (script_in_range script is)))
      (by_pasts_short script halts is),
)

few : (st : Standing) → IsShort st → length st.running.trace ≤ most_events
few st short = let x = short.inputs in let y = short.events in omega (arith, x, y)

pub runs_are_short : RunsAreShort
runs_are_short script is =
    let both = halted_runs_are_short script (given []) is in (
      subst (λ (r : Running). length r.trace ≤ most_events) (no_halt_is_the_run by_pasts script)
          (few (run_halting by_pasts (given []) script) both.0),
      subst (λ (r : Running). length r.trace ≤ most_events) (no_halt_is_the_run by_knowledge script)
          (few (run_halting by_knowledge (given []) script) both.1),
    )
