-- The lines of a script with the last halt of a node found to be taken.
use Rattle.std.proofs.Common.{◌≡◌, ◌⊎◌, inl, inr, ℕ, zero, suc, ◌+◌}
use Rattle.std.proofs.Common.{List, [], ◌∷◌, ◌++◌, length, Some, refl, sym, ap}
use Rattle.std.proofs.Common.{◌∙◌, subst, arith}
use Rattle.std.specs.Prelude.{slice_get}
use Rattle.std.proofs.lemmas.Bool.{cases_Bool}
use Rattle.std.proofs.lemmas.List.{append_assoc, length-append}
use Rattle.std.proofs.lemmas.Option.{same_Some}
use Rattle.cam_event.specs.Readings.{by_pasts}
use Rattle.cam_script.specs.declared.Script.{Script}
use Rattle.cam_script.specs.declared.Step.{Step}
use Rattle.cam_runs.specs.InRange.{IsInRange}
use Rattle.cam_runs.specs.Halts.{Halting, given}
use Rattle.cam_runs.specs.Standing.{Standing, start}
use Rattle.cam_runs.specs.HaltedLines.{setting}
use Rattle.cam_runs.specs.HaltedLines.{is_restart_act}
use Rattle.cam_runs.specs.UnderHalts.{IsUnderHalts, IsNextStep}
use Rattle.cam_runs.proofs.Beginnings.{at_end}
use Rattle.cam_runs.proofs.HaltedWhole.{halted_lines_lead_on, start_is_under_halts}
use Rattle.cam_histories.specs.Found.{last_input, DifferAt, IsBeyond, HasBeyond, IsBefore}
use Rattle.cam_histories.specs.Found.{after_step}
use Rattle.cam_histories.specs.Found.{IsLineOfBoth}
use Rattle.cam_histories.proofs.FoundRuns.{lines_lead_to_the_halt, lines_keep_the_event}
use Rattle.cam_cluster.specs.FoundHalts.{IsPutIn, FoundLinesPutIn, input_node, with_taken}
use Rattle.cam_cluster.specs.Seen.{run_first, run_of_lines}
use Rattle.cam_runs.proofs.LinesGrow.{act_runs}
use Rattle.cam_cluster.proofs.LastInputs.{last_below, last_node}
use Rattle.cam_cluster.proofs.HaltsDiffer.{found_halts_differ}
use Rattle.cam_cluster.proofs.HaltOver.{IsOver, over_stays, restart_over}
use Rattle.cam_cluster.proofs.LinesUnder.{line_counts}

-- the three ways in which both runs may stand
abbrev Stand : Script → ℕ → Standing → Standing → Type 0
Stand script k lost found =
    IsBefore k lost found ⊎ (HasBeyond script.objects k lost found ⊎ IsOver k lost)

line_stands : (script : Script) (k : ℕ) (losing taking : Halting) (lost found : Standing)
    (step : Step) (later : List Step) → IsLineOfBoth script k losing taking lost found step
    → Stand script k lost found
    → Stand script k (after_step losing later script lost step)
    (after_step taking later script found step)
line_stands script k losing taking lost found step later both (inl before) =
    elim (lines_lead_to_the_halt script k losing taking lost found step later both before) [
      | inl still ↦ inl still
      | inr beyond ↦ inr (inl beyond)
    ]
line_stands script k losing taking lost found step later both (inr (inl b)) =
    elim (cases_Bool (is_restart_act b.node step.act)) [
      | inl again ↦ inr (inr (restart_over script _ losing lost found step later b again))
      | inr other ↦ inr (inl (record {
        node = b.node;
        before = b.before;
        event = b.event;
        beyond =
            lines_keep_the_event script k b.node b.before b.event losing taking lost found step
            later both b.beyond other;
      }))
    ]
line_stands script k losing taking lost found step later both (inr (inr over)) =
    inr (inr (over_stays _ _ _ (act_runs (setting (by_pasts script.objects) losing step later)
    losing losing script.bodies _ step.line step.act).grows over))

-- all lines so far
module _ (script : Script) (range : IsInRange script) (k : ℕ) (losing taking : Halting)
    (differ : DifferAt k losing taking)
  where
    abbrev after : Halting → ℕ → List Step → Standing → Standing
    after halts n steps st = run_first (by_pasts script.objects) halts script.bodies n steps st

    lines_stand : (n : ℕ) (done steps : List Step) (lost found : Standing)
        → script.steps ≡ done ++ steps → length lost.running.bound ≡ length done
        → length found.running.bound ≡ length done → IsUnderHalts script lost
        → IsUnderHalts script found → Stand script k lost found
        → Stand script k (after losing n steps lost) (after taking n steps found)
    lines_stand zero done steps lost found all place there lost_under found_under stands = stands
    lines_stand (suc n) done [] lost found all place there lost_under found_under stands = stands
    lines_stand (suc n) done (step ∷ steps) lost found all place there lost_under found_under
        stands =
        lines_stand n (done ++ step ∷ []) steps (after_step losing steps script lost step)
        (after_step taking steps script found step)
        (all ∙ sym (append_assoc done (step ∷ []) steps))
        (line_counts script losing lost step steps range lost_under next
        ∙ ap (λ m. m + 1) place ∙ sym (length-append done (step ∷ [])))
        (line_counts script taking found step steps range found_under next_found
        ∙ ap (λ m. m + 1) there ∙ sym (length-append done (step ∷ [])))
        (halted_lines_lead_on script lost step losing steps range lost_under next)
        (halted_lines_lead_on script found step taking steps range found_under next_found)
        (line_stands script k losing taking lost found step steps
        (record {
          in_range = range;
          differ = differ;
          lost_under = lost_under;
          found_under = found_under;
          next = next;
        }) stands)
      where
        next : IsNextStep script lost step
        next = (λ i. slice_get (all i) (place i)) ∙ at_end done steps step

        next_found : IsNextStep script found step
        next_found = (λ i. slice_get (all i) (there i)) ∙ at_end done steps step

    pub all_stand : (n : ℕ)
        → Stand script k (after losing n script.steps start) (after taking n script.steps start)
    all_stand n =
        lines_stand n [] script.steps start start refl refl refl (start_is_under_halts script)
        (start_is_under_halts script)
        (inl (record { coming = omega arith; same = refl }))

pub found_lines_put_in : FoundLinesPutIn
found_lines_put_in script halts n s k range is =
    by (all_stand script range k (given halts) (given (with_taken lost.turns s halts)) differ n)
  where
    lost : Standing
    lost = run_of_lines by_pasts script halts n

    found : Standing
    found = run_of_lines by_pasts script (with_taken lost.turns s halts) n

    differ : DifferAt k (given halts) (given (with_taken lost.turns s halts))
    differ = found_halts_differ lost.turns halts s k is.newest is.last is.lost

    at : input_node lost.turns k ≡ Some s
    at = last_node lost.turns s k is.last

    by : Stand script k lost found → IsPutIn script.objects k s lost found
    by (inl before) =
        let low = last_below lost.turns s k is.last in
        let coming = before.coming in
        absurd (omega (arith, low, coming))
    by (inr (inl b)) =
        let same : b.node ≡ s =
        same_Some b.node s (sym (last_node lost.turns b.node k b.beyond.last) ∙ at) in
        record {
          before = b.before;
          event = b.event;
          beyond = subst (λ m. IsBeyond script.objects k m b.before b.event lost found) same
              b.beyond;
        }
    by (inr (inr over)) =
        let same : over.node ≡ s = same_Some over.node s (sym over.at ∙ at) in
        let number : over.number ≡ k =
        same_Some over.number k
        (sym over.last ∙ ap (last_input lost.turns) same ∙ is.last) in
        let later = over.later in
        absurd (omega (arith, number, later))
