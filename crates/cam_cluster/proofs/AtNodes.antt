-- The variables of a script's lines stand for actions whose homes are among its nodes.
use Rattle.std.proofs.Common.{◌≡◌, inl, inr, ℕ, zero, suc, ◌+◌, Bool, true, not, List, []}
use Rattle.std.proofs.Common.{◌∷◌, ◌++◌, length, Option, Some, None, refl, sym, ap, ◌∙◌, subst}
use Rattle.std.specs.Prelude.{slice_get, unwrap_or}
use Rattle.std.proofs.lemmas.List.{append_assoc, length-append}
use Rattle.cam_names.specs.declared.name.Name.{Name}
use Rattle.cam_event.specs.Readings.{by_pasts}
use Rattle.cam_event.specs.Refusals.{refusal}
use Rattle.cam_runs.specs.Halts.{Halting, given}
use Rattle.cam_runs.specs.HaltedLines.{Passed, Refused, Led, after_line}
use Rattle.cam_runs.specs.HaltedLines.{setting}
use Rattle.cam_runs.specs.InRange.{is_start_act}
use Rattle.cam_runs.specs.Standing.{Standing, Setting, start}
use Rattle.cam_runs.specs.UnderHalts.{IsNextStep, IsUnderHalts}
use Rattle.cam_runs.proofs.Beginnings.{at_end}
use Rattle.cam_runs.proofs.HaltedActs.{act_both}
use Rattle.cam_runs.proofs.HaltedParts.{PassedKeeps}
use Rattle.cam_runs.proofs.HaltedWhole.{halted_lines_lead_on, start_is_under_halts}
use Rattle.cam_runs.proofs.LeadOn.{slice_more}
use Rattle.cam_runs.proofs.Range.{script_in_range}
use Rattle.cam_script.specs.declared.Script.{Script}
use Rattle.cam_script.specs.declared.Step.{Step}
use Rattle.cam_script.specs.Law.{IsScript, act_holds}
use Rattle.cam_histories.specs.Found.{after_step}
use Rattle.cam_cluster.specs.AtNodes.{LinesStayAtNodes, RunsAreAtNodes}
use Rattle.cam_cluster.specs.Seen.{run_first}
use Rattle.cam_cluster.specs.VariableLines.{AreAtNodes, IsAtNode}
use Rattle.cam_cluster.proofs.BindsAt.{binds_at, binds_of, none}
use Rattle.cam_cluster.proofs.LinesUnder.{line_counts}
use Rattle.cam_cluster.proofs.StepHolds.{next_holds, next_in_range}

-- one more variable
one_more : (nodes : ℕ) (bound : List (Option Name)) (binds : Option Name) → AreAtNodes nodes bound
    → ((a : Name) → binds ≡ Some a → IsAtNode nodes a) → AreAtNodes nodes (bound ++ binds ∷ [])
one_more nodes bound binds placed new v a at = by (slice_get (bound ++ binds ∷ []) v) refl at
  where
    by : (o : Option (Option Name)) → slice_get (bound ++ binds ∷ []) v ≡ o
        → unwrap_or o None ≡ Some a → IsAtNode nodes a
    by None is h = none a h
    by (Some x) is h = elim (slice_more bound binds x v is) [
      | inl old ↦ placed v a (ap (λ o. unwrap_or o None) old ∙ h)
      | inr last ↦ new a (last.1 ∙ h)
    ]

passed_at : (script : Script) (st : Standing) (line : ℕ) (free : Bool) (passed : Passed)
    → PassedKeeps script st free passed → AreAtNodes script.nodes st.running.bound
    → ((a : Name) → binds_of passed ≡ Some a → IsAtNode script.nodes a)
    → AreAtNodes script.nodes (after_line st line passed).running.bound
passed_at script st line free (Refused refusal) keeps placed new =
    one_more script.nodes st.running.bound None placed (λ a. none _)
passed_at script st line free (Led now binds) keeps placed new =
    one_more _ _ _ (subst (AreAtNodes script.nodes) (sym keeps.1) placed) new

pub lines_stay_at_nodes : LinesStayAtNodes
lines_stay_at_nodes script st step halts later is under next placed =
    passed_at script st step.line (not (is_start_act step.act)) _
    (act_both script c st step.act (script_in_range script is) under
    (next_in_range script st step.line step.act is next)).keeps placed
    (λ a. binds_at script c st a holds.0 step.act holds.1)
  where
    c : Setting
    c = setting (by_pasts script.objects) halts step later

    holds : (before : List Step)
        × (act_holds script.nodes script.objects (length script.bodies) before step.act ≡ true)
    holds = next_holds script st step.line step.act is next

-- after each line of a script
lines_at_nodes : (script : Script) → IsScript script → (halts : Halting) (n : ℕ)
    (done steps : List Step) (st : Standing) → script.steps ≡ done ++ steps
    → length st.running.bound ≡ length done → IsUnderHalts script st
    → AreAtNodes script.nodes st.running.bound
    → AreAtNodes script.nodes
    (run_first (by_pasts script.objects) halts script.bodies n steps st).running.bound
lines_at_nodes script is halts zero done steps st all place under placed = placed
lines_at_nodes script is halts (suc n) done [] st all place under placed = placed
lines_at_nodes script is halts (suc n) done (step ∷ steps) st all place under placed =
    lines_at_nodes script is halts n (done ++ step ∷ []) steps
    (after_step halts steps script st step)
    (all ∙ sym (append_assoc done (step ∷ []) steps))
    (line_counts script halts st step steps (script_in_range script is) under next
    ∙ ap (λ m. m + 1) place ∙ sym (length-append done (step ∷ [])))
    (halted_lines_lead_on script st step halts steps (script_in_range script is) under next)
    (lines_stay_at_nodes script st step halts steps is under next placed)
  where
    next : IsNextStep script st step
    next = (λ i. slice_get (all i) (place i)) ∙ at_end done steps step

pub runs_are_at_nodes : RunsAreAtNodes
runs_are_at_nodes script halts n is =
    lines_at_nodes script is (given halts) n [] script.steps start refl refl
    (start_is_under_halts script) (λ v a h. none a h)
