-- What stands after the lines of a script so far is under way, and each line takes one place among
-- the variables.
use Rattle.std.proofs.Common.{◌≡◌, ℕ, zero, suc, ◌+◌, Bool, true}
use Rattle.std.proofs.Common.{not, List, [], ◌∷◌, ◌++◌, length, None, refl, sym, ap}
use Rattle.std.proofs.Common.{◌∙◌}
use Rattle.std.specs.Prelude.{slice_get}
use Rattle.std.proofs.lemmas.List.{append_assoc, length-append}
use Rattle.cam_event.specs.Readings.{by_pasts}
use Rattle.cam_script.specs.declared.Script.{Script}
use Rattle.cam_script.specs.declared.Step.{Step}
use Rattle.cam_runs.specs.InRange.{is_start_act, is_act, IsInRange}
use Rattle.cam_runs.specs.Halts.{Halting, given}
use Rattle.cam_runs.specs.Standing.{Standing, Setting, start}
use Rattle.cam_runs.specs.HaltedLines.{Passed, Refused, Led, act, after_line, setting}
use Rattle.cam_runs.specs.UnderHalts.{IsUnderHalts, IsNextStep}
use Rattle.cam_runs.proofs.Beginnings.{at_end}
use Rattle.cam_runs.proofs.Following.{added}
use Rattle.cam_runs.proofs.HaltedActs.{act_both}
use Rattle.cam_runs.proofs.HaltedParts.{PassedKeeps}
use Rattle.cam_runs.proofs.HaltedWhole.{halted_lines_lead_on, start_is_under_halts}
use Rattle.cam_runs.proofs.LeadOn.{step_passes}
use Rattle.cam_histories.specs.Found.{after_step}
use Rattle.cam_cluster.specs.FoundHalts.{LinesAreUnderHalts}
use Rattle.cam_cluster.specs.Seen.{run_first}

-- each line takes one place among the variables
passed_counts : (script : Script) (st : Standing) (line : ℕ) (free : Bool) (passed : Passed)
    → PassedKeeps script st free passed
    → length (after_line st line passed).running.bound ≡ length st.running.bound + 1
passed_counts script st line free (Refused r) keeps = added st.running.bound None
passed_counts script st line free (Led new binds) keeps =
    added new.running.bound binds ∙ ap (λ bs. length bs + 1) keeps.1

pub line_counts : (script : Script) (halts : Halting) (st : Standing) (step : Step)
    (later : List Step)
    → IsInRange script → IsUnderHalts script st → IsNextStep script st step
    → length (after_step halts later script st step).running.bound ≡ length st.running.bound + 1
line_counts script halts st step later range under next =
    passed_counts script st step.line (not (is_start_act step.act)) (act c script.bodies st
    step.act) (act_both _ c _ step.act range under passes).keeps
  where
    c : Setting
    c = setting (by_pasts script.objects) halts step later

    passes : is_act script step.act ≡ true
    passes = step_passes (λ (s : Step). is_act script s.act) script.steps _ _ range.0 next

-- what stands after the lines so far is under way
lines_under : (script : Script) → IsInRange script → (halts : Halting) (n : ℕ)
    (done steps : List Step) (st : Standing) → script.steps ≡ done ++ steps
    → length st.running.bound ≡ length done → IsUnderHalts script st
    → IsUnderHalts script (run_first (by_pasts script.objects) halts script.bodies n steps st)
lines_under script range halts zero done steps st all place under = under
lines_under script range halts (suc n) done [] st all place under = under
lines_under script range halts (suc n) done (step ∷ steps) st all place under =
    lines_under script range halts n (done ++ step ∷ []) steps (after_step halts steps script st
    step) (all ∙ sym (append_assoc done (step ∷ []) steps)) (line_counts _ halts _ _ steps range
    under next ∙ ap (λ m. m + 1) place ∙ sym (length-append done (step ∷ []))) (halted_lines_lead_on
    script st step halts steps range under next)
  where
    next : IsNextStep script st step
    next = (λ i. slice_get (all i) (place i)) ∙ at_end done steps step

pub lines_are_under_halts : LinesAreUnderHalts
lines_are_under_halts script halts n range =
    lines_under script range (given halts) n [] script.steps start refl refl
    (start_is_under_halts script)
