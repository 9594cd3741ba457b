-- A play of a script ends by its rule.
use Rattle.std.proofs.Common.{ℕ, ◌+◌, ◌≤◌, List, [], ◌∷◌, ◌++◌, subst, arith}
use Rattle.std.specs.List.{list_any}
use Rattle.cam_names.specs.Names.{home_node}
use Rattle.cam_event.specs.Readings.{by_pasts}
use Rattle.cam_script.specs.declared.Step.{Step}
use Rattle.cam_script.specs.Law.{sizes_of, spent_in}
use Rattle.cam_script.specs.SoFar.{Size}
use Rattle.cam_runs.specs.HaltedLines.{setting}
use Rattle.cam_runs.specs.Playing.{is_stop_of}
use Rattle.cam_runs.specs.PlaysEnd.{standing_after, PlaysAreOver}
use Rattle.cam_runs.specs.RequestsLeft.{left_away}
use Rattle.cam_runs.specs.Running.{has_number}
use Rattle.cam_runs.specs.Standing.{start, Standing}
use Rattle.cam_script.specs.declared.Statement.{Statement}
use Rattle.cam_runs.proofs.BodyCosts.{has_costs}
use Rattle.cam_runs.proofs.LinesSpend.{all_left, cost_left}
use Rattle.cam_runs.proofs.RequestsKept.{no_more, sum_lowers}
use Rattle.cam_runs.proofs.RequestSteps.{if_most}
use Rattle.cam_runs.proofs.RoundsEnd.{play_over}
use Rattle.cam_runs.proofs.GivenBodies.{total, HasCosts}
use Rattle.cam_runs.proofs.ScriptsSpend.{steps_spend}

-- What is left without the actions that do not go on is no more than with them.
less_away : (sizes : List Size) (bodies : List (List Statement)) (st : Standing)
    → total sizes bodies st.halted st ≤ all_left sizes bodies st
less_away sizes bodies st =
    sum_lowers (cost_left sizes bodies st.running.trace)
    (left_away sizes bodies st.halted st.running.trace) st.running.bodies
    (λ a n. if_most (has_number st.halted (home_node a)) _ _
    (if_most (list_any (is_stop_of a) st.running.trace) _ _
    (no_more (cost_left sizes bodies st.running.trace a n))))

-- the first steps cost no more than all
first_cost : (sizes : List Size) (one other : List Step)
    → spent_in sizes one ≤ spent_in sizes (one ++ other)
first_cost sizes [] other = least (spent_in sizes other)
  where
    least : (n : ℕ) → 0 ≤ n
    least n = omega arith
first_cost sizes (step ∷ one) other =
    let rest = first_cost sizes one other in omega (arith, rest)

pub plays_are_over : PlaysAreOver
plays_are_over script halts earlier step later is steps =
    play_over (sizes_of script) script (setting (by_pasts script.objects) halts step later) costs st
    (by _ _ _ _ (less_away (sizes_of script) script.bodies st)
    (steps_spend (sizes_of script) script costs halts earlier (step ∷ later) start)
    (first_cost (sizes_of script) earlier (step ∷ later))
    (subst (λ (all : List Step). spent_in (sizes_of script) all ≤ 512) steps is.step_limit))
  where
    costs : HasCosts (sizes_of script) script.bodies
    costs = has_costs script is

    st : Standing
    st = standing_after (by_pasts script.objects) halts script.bodies earlier (step ∷ later) start

    by : (away all some whole : ℕ) → away ≤ all → all ≤ 0 + some → some ≤ whole → whole ≤ 512
        → away ≤ 512
    by away all some whole p q r s = omega (arith, p, q, r, s)
