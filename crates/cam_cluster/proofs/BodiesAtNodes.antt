-- The actions that work at a body have their homes among the script's nodes: line by line.
use Rattle.std.proofs.Common.{◌≡◌, ℕ, zero, suc, true, List, []}
use Rattle.std.proofs.Common.{◌∷◌, ◌++◌, length, refl, sym, ap, ◌∙◌}
use Rattle.std.specs.Prelude.{slice_get}
use Rattle.std.proofs.lemmas.List.{append_assoc}
use Rattle.cam_event.specs.Readings.{by_pasts}
use Rattle.cam_runs.specs.Halts.{Halting, given}
use Rattle.cam_runs.specs.HaltedLines.{act}
use Rattle.cam_runs.specs.HaltedLines.{setting}
use Rattle.cam_runs.specs.Standing.{Setting, Standing}
use Rattle.cam_runs.specs.Standing.{start}
use Rattle.cam_runs.specs.UnderHalts.{IsNextStep, IsUnderHalts}
use Rattle.cam_runs.proofs.Beginnings.{at_end}
use Rattle.cam_runs.proofs.HaltedWhole.{halted_lines_lead_on, start_is_under_halts}
use Rattle.cam_runs.proofs.Range.{script_in_range}
use Rattle.cam_script.specs.declared.Script.{Script}
use Rattle.cam_script.specs.declared.Step.{Step}
use Rattle.cam_script.specs.Law.{IsScript, act_holds}
use Rattle.cam_histories.specs.Found.{after_step}
use Rattle.cam_cluster.specs.BodiesAtNodes.{BodiesStayAtNodes, RunsHaveBodiesAtNodes}
use Rattle.cam_cluster.specs.Seen.{run_first}
use Rattle.cam_cluster.proofs.BodiesPlaced.{HasPlaced}
use Rattle.cam_cluster.proofs.LinesUnder.{line_counts}
use Rattle.cam_cluster.proofs.StepHolds.{next_holds}
use Rattle.std.proofs.lemmas.List.{length-append}
use Rattle.std.specs.Prelude.{◌+◌}
use Rattle.cam_cluster.proofs.ActsPlaced.{act_placed, line_placed}

pub bodies_stay_at_nodes : BodiesStayAtNodes
bodies_stay_at_nodes script st step halts later is next placed =
    line_placed script is c st placed step.line (act c script.bodies st step.act)
    (act_placed script is c st placed holds.0 step.act holds.1)
  where
    c : Setting
    c = setting (by_pasts script.objects) halts step later

    holds : (before : List Step)
        × (act_holds script.nodes script.objects (length script.bodies) before step.act ≡ true)
    holds = next_holds script st step.line step.act is next

-- after each line of a script
lines_placed : (script : Script) → IsScript script → (halts : Halting) (n : ℕ)
    (done steps : List Step) (st : Standing) → script.steps ≡ done ++ steps
    → length st.running.bound ≡ length done → IsUnderHalts script st
    → HasPlaced script.nodes st
    → HasPlaced script.nodes
    (run_first (by_pasts script.objects) halts script.bodies n steps st)
lines_placed script is halts zero done steps st all place under placed = placed
lines_placed script is halts (suc n) done [] st all place under placed = placed
lines_placed script is halts (suc n) done (step ∷ steps) st all place under placed =
    lines_placed script is halts n (done ++ step ∷ []) steps
    (after_step halts steps script st step)
    (all ∙ sym (append_assoc done (step ∷ []) steps))
    (line_counts script halts st step steps (script_in_range script is) under next
    ∙ ap (λ m. m + 1) place ∙ sym (length-append done (step ∷ [])))
    (halted_lines_lead_on script st step halts steps (script_in_range script is) under next)
    (bodies_stay_at_nodes script st step halts steps is next placed)
  where
    next : IsNextStep script st step
    next = (λ i. slice_get (all i) (place i)) ∙ at_end done steps step

pub runs_have_bodies_at_nodes : RunsHaveBodiesAtNodes
runs_have_bodies_at_nodes script halts n is =
    lines_placed script is (given halts) n [] script.steps start refl refl
    (start_is_under_halts script) tt
