-- `restart`, taken: it goes on from what was seen, or from the run in which the halt was taken.
use Rattle.std.proofs.Common.{◌≡◌, inl, inr, ℕ, zero, suc, ◌-◌, ◌<◌, ◌≤◌, List, [], ◌∷◌, None, true}
use Rattle.std.proofs.Common.{Ok, Err, length, refl, sym, ◌∙◌, subst, arith}
use Rattle.std.specs.Prelude.{IfSome, slice_get}
use Rattle.cam_event.specs.Readings.{by_knowledge}
use Rattle.cam_node.specs.Log.{Logged}
use Rattle.cam_runs.specs.Halts.{accepted, given}
use Rattle.cam_runs.specs.Running.{has_number}
use Rattle.cam_runs.specs.Standing.{Standing}
use Rattle.cam_script.specs.declared.Act.TheVariants as acts
use Rattle.cam_script.specs.declared.Statement.{Statement}
use Rattle.cam_script.specs.declared.Step.{Step}
use Rattle.cam_base.specs.declared.memory.NoMemory.{NoMemory}
use Rattle.cam_cluster.specs.declared.course.CourseFault.TheVariants as faults
use Rattle.cam_cluster.specs.declared.LineFault.TheVariants as line_faults
use Rattle.cam_cluster.specs.declared.workers.Workers.{Workers}
use Rattle.cam_cluster.specs.declared.works.restart.Restart.TheVariants as ends
use Rattle.cam_cluster.specs.Between.{AreHaltsOfLine, HasLedOn, KeepsBetween, after_step}
use Rattle.cam_cluster.specs.Between.{seen_found}
use Rattle.cam_cluster.specs.Courses.{IsAtWorkLine}
use Rattle.cam_cluster.specs.Restarts.{HasFoundByStop, IsFoundEnded, IsRestartLine}
use Rattle.cam_cluster.specs.Seen.{IsNextStep, Seen, later_steps, setting_in}
use Rattle.cam_cluster.specs.SoFar.{LinesFields}
use Rattle.cam_cluster.specs.VariableLines.{IsNextOfSome}
use Rattle.cam_cluster.specs.Workers.{AreWorkers, IsGiven}
use Rattle.cam_cluster.proofs.FoundSeen.{beyond, bodies_stay_found, found_lost, found_next}
use Rattle.cam_cluster.proofs.FoundSeen.{found_so_far}
use Rattle.cam_cluster.proofs.GoesOn.{run_goes_on}
use Rattle.cam_cluster.proofs.NextLine.{done_goes, unsaid, wanting_goes}
use Rattle.cam_cluster.proofs.RestartAgrees.{has_found, has_stood}
use Rattle.cam_cluster.proofs.StepHolds.{next_holds, node_within}
use Rattle.cam_cluster.proofs.WorkersOn.{bodies_same, workers_on}

-- The node of the line is one of the nodes that are kept.
pub restarts_within : (line s : ℕ) (lines : LinesFields) (may : ℕ → Logged → Type 0)
    → IsNextOfSome line (acts.Restart s) lines may → (1 ≤ s) × (s ≤ length lines.works.nodes)
restarts_within line s lines may some =
    let holds = next_holds some.script some.standing line (acts.Restart s) some.is_script some.next
    in
    let within = node_within _ _ holds.1 in
    (within.0, rw some.keeps.runs.one_each within.1)

-- what follows from what holds of the element that stands there
pub at_place : {T : Type 0} (xs : List T) (k : ℕ) (P : T → Type 0) (Q : Type 0) → k < length xs
    → IfSome (slice_get xs k) P → ((x : T) → P x → Q) → Q
at_place [] k P Q within holds so = let none : ⊥ = omega (arith, within) in absurd none
at_place (x ∷ xs) zero P Q within holds so = so x holds
at_place (x ∷ xs) (suc k) P Q within holds so =
    at_place xs k P Q (omega (arith, within)) holds so

module _ (line s : ℕ) (bodies : List (List Statement)) (old new : LinesFields)
    (might may : ℕ → Logged → Type 0) where
  abbrev step : Step
  step = record { line = line; act = acts.Restart s }

  pub stood_at_work : (at_work : Workers) → 1 ≤ s
      → HasFoundByStop (s - 1) old.works might ends.Stood
      → IsRestartLine s old might new may (Ok ends.Stood)
      → IsAtWorkLine step bodies old might at_work new may at_work (Ok None)
  stood_at_work at_work low by_stop is seen keeps next same =
      let between = keeps.between in
      let led : HasLedOn seen step new may =
      done_goes seen step old new might may between next refl
      (is seen.script seen.standing (given seen.halts) line (later_steps seen) between.is_script
      between.keeps next (unsaid seen.halts (accepted seen.standing.turns) between.past)) in record {
        from = seen;
        is_from = inl (has_stood seen old might between line s next low by_stop);
        led = led;
        workers = workers_on seen step led.more at_work tt keeps.workers;
        fault = refl;
      }

  -- The event at which the node had halted was found.
  module _ (seen : Seen) (keeps : KeepsBetween seen old might) (next : IsNextStep seen step)
      (is : IsRestartLine s old might new may (Ok ends.Found)) where
    abbrev from : Seen
    from = seen_found seen s

    found_ended : IsFoundEnded seen.script seen.standing
        (setting_in by_knowledge from from.halts step) s new may
    found_ended =
        is seen.script seen.standing (given from.halts) line (later_steps from) keeps.is_script
        keeps.keeps next

    found_led : HasLedOn from step new may
    found_led =
        let told = found_ended in
        let so_far = found_so_far seen old might keeps s told.halted in
        let none : AreHaltsOfLine from (after_step from step []) [] =
        record { newest = tt; low = tt; high = tt; lost = tt } in record {
          more = [];
          of_line = none;
          passed = refl;
          stands =
              run_goes_on from step [] new may so_far
              (found_next seen old might keeps s told.halted step next) none
              (found_lost seen old might keeps s told.halted)
              (told.stands from.standing _ _ _ so_far.under
              (beyond seen old might keeps s told.halted)
              (unsaid from.halts (accepted from.standing.turns) so_far.past));
        }

  -- The actions at bodies take in all events again.
  pub found_at_work : (before behind : Workers) → 1 ≤ s
      → HasFoundByStop (s - 1) old.works might ends.Found
      → IsRestartLine s old might new may (Ok ends.Found)
      → ((st : Standing) → IsGiven st.running.bodies before → AreWorkers st behind)
      → IsAtWorkLine step bodies old might before new may behind (Ok None)
  found_at_work before behind low by_stop is forgets seen keeps next same = record {
    from = seen_found seen s;
    is_from = inr (has_found seen old might keeps.between line s next low by_stop halted);
    led = led;
    workers =
        forgets (after_step (seen_found seen s) step led.more).standing
        (subst (λ given. IsGiven given before)
        (sym (bodies_same (seen_found seen s) step led.more tt
        ∙ bodies_stay_found seen old might keeps.between s halted))
        keeps.workers.given);
    fault = refl;
  }
    where
      led : HasLedOn (seen_found seen s) step new may
      led = found_led seen keeps.between next is

      halted : has_number seen.standing.halted s ≡ true
      halted = (found_ended seen keeps.between next is).halted

  -- It failed, and the run ends there.
  pub failed_at_work : (before behind : Workers)
      → IsRestartLine s old might new may (Ok ends.Failed)
      → IsAtWorkLine step bodies old might before new may behind (Err faults.RestartFailed)
  failed_at_work before behind is seen keeps next same =
      is seen.script seen.standing (given seen.halts) line (later_steps seen)
      keeps.between.is_script keeps.between.keeps next

  -- Memory ran out before.
  pub restart_wanting : (at_work : Workers) (fault : NoMemory)
      → IsRestartLine s old might new may (Err fault)
      → IsAtWorkLine step bodies old might at_work new may at_work
      (Err (faults.Line line_faults.NoMemory))
  restart_wanting at_work fault is seen keeps next same =
      let between = keeps.between in record {
        between =
            wanting_goes _ step old _ might _ between next (is seen.script seen.standing (given
            seen.halts) line (later_steps seen) between.is_script between.keeps next);
        workers = keeps.workers;
      }
