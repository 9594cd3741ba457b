-- The actions at bodies are those after a line that gives none a body.
use Rattle.std.proofs.Common.{◌≡◌, List, [], ◌++◌, Some, refl, sym, ap, ◌∙◌, subst}
use Rattle.cam_event.specs.declared.LineRefusal.{LineRefusal}
use Rattle.cam_event.specs.Readings.{by_pasts}
use Rattle.cam_runs.specs.Halts.{Halt}
use Rattle.cam_runs.specs.HaltedLines.{Refused, act, after_line}
use Rattle.cam_runs.specs.Running.{Running}
use Rattle.cam_runs.specs.Standing.{Setting, Standing}
use Rattle.cam_script.specs.declared.Step.{Step}
use Rattle.cam_histories.specs.Lines.{line_refusal}
use Rattle.cam_histories.proofs.Lines.{lines_are_tested}
use Rattle.cam_cluster.specs.declared.workers.Workers.{Workers}
use Rattle.cam_cluster.specs.Between.{after_step}
use Rattle.cam_cluster.specs.Seen.{Seen, setting_in}
use Rattle.cam_cluster.specs.Workers.{AreWorkers}
use Rattle.cam_cluster.proofs.BodiesStay.{GivesNone, bodies_stay}
use Rattle.cam_cluster.proofs.LinesRefused.{by_refusal}
use Rattle.cam_cluster.proofs.LostLines.{begun_running, step_extends}
use Rattle.cam_cluster.proofs.WorkersStand.{workers_stay}

module _ (seen : Seen) (step : Step) (more : List Halt) where
  abbrev c : Setting
  c = setting_in by_pasts seen (more ++ seen.halts) step

  pub bodies_same : GivesNone step.act
      → (after_step seen step more).standing.running.bodies ≡ seen.standing.running.bodies
  bodies_same none = bodies_stay c seen.script.bodies seen.standing step.line _ none

  pub workers_on : (at_work : Workers) → GivesNone step.act → AreWorkers seen.standing at_work
      → AreWorkers (after_step seen step more).standing at_work
  workers_on at_work none are =
      let left = step_extends seen step more in
      workers_stay seen.standing (after_step seen step more).standing at_work left.events
      (bodies_same none)
      (left.trace
      ∙ ap (λ (r : Running). left.events ++ r.trace) (begun_running step.act seen.standing)) are

-- What is left by a line that is refused.
module _ (seen : Seen) (step : Step) (refusal : LineRefusal)
    (test : line_refusal (by_pasts seen.script.objects) seen.standing step.act ≡ Some refusal) where
  pub refused_is : (after_step seen step []).standing
      ≡ after_line seen.standing step.line (Refused refusal)
  refused_is =
      let c = setting_in by_pasts seen seen.halts step in
      ap (after_line seen.standing step.line) (by_refusal _ _ (lines_are_tested c
      seen.script.bodies seen.standing step.act ∙ test))

  pub refused_on : (at_work : Workers) → AreWorkers seen.standing at_work
      → AreWorkers (after_step seen step []).standing at_work
  refused_on at_work are = rw refused_is (workers_stay _ _ _ [] refl refl are)
