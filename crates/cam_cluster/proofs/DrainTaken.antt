-- A drain is taken.
use Rattle.std.proofs.Common.{◌≡◌, ℕ, ◌+◌, ◌≤◌, List, ◌++◌, length, None, refl, sym, ap, ◌∙◌}
use Rattle.std.proofs.Common.{Ok, arith}
use Rattle.std.specs.List.{list_any}
use Rattle.cam_event.specs.Readings.{by_knowledge}
use Rattle.cam_node.specs.Log.{Logged}
use Rattle.cam_runs.specs.Halts.{Halt, accepted, given}
use Rattle.cam_runs.specs.HaltedLines.{is_restart}
use Rattle.cam_runs.specs.Standing.{Standing, Setting, drain}
use Rattle.cam_runs.proofs.DrainsGoOn.{halted_drains_go_on}
use Rattle.cam_script.specs.declared.Act.TheVariants as acts
use Rattle.cam_script.specs.declared.Step.{Step}
use Rattle.cam_cluster.specs.declared.works.Put.{Put}
use Rattle.cam_cluster.specs.Between.{AreHaltsOfLine, KeepsBetween, after_step, halts_from}
use Rattle.cam_cluster.specs.Drains.{AreSaid, IsDrainedLine, IsLineOfDrain, IsPartOfDrain}
use Rattle.cam_cluster.specs.Seen.{IsNextStep, Seen, later_steps, setting_in}
use Rattle.cam_cluster.specs.SoFar.{LinesFields}
use Rattle.cam_cluster.specs.Taking.{HasDrainedPart, IsStepTaken}
use Rattle.cam_cluster.proofs.Drains.{drain_is}
use Rattle.cam_cluster.proofs.EndsSaid.{deliveries_said, from_high, from_lost, from_low}
use Rattle.cam_cluster.proofs.EndsSaid.{from_newest}
use Rattle.cam_cluster.proofs.EndsSaid.{given_said, handed_over}
use Rattle.cam_cluster.proofs.GoesOn.{goes_on}
use Rattle.cam_cluster.proofs.NextLine.{held_is}

module _ (line : ℕ) (old new : LinesFields) (might may : ℕ → Logged → Type 0) where
  abbrev step : Step
  step = record { line = line; act = acts.Drain }

  -- what is known with the halts of these ends
  module _ (seen : Seen) (ends : List Put) where
    abbrev more : List Halt
    more = halts_from (accepted seen.standing.turns) ends

    abbrev c : Setting
    c = setting_in by_knowledge seen (more ++ seen.halts) step

    all_said : KeepsBetween seen old might → AreSaid c ends seen.standing
    all_said keeps =
        deliveries_said c _ _ seen.standing refl (given_said _ _ _ _ refl keeps.past)

  pub drain_taken : IsLineOfDrain line old might new may
      → IsStepTaken step old might new may (Ok None)
  drain_taken has seen keeps next = (
    record {
      more = more seen has.ends;
      of_line = of_line;
      passed = refl;
      stands =
          goes_on seen step (more seen has.ends) old new might may keeps next of_line
          drained.stands;
    },
    refl,
  )
    where
      drained : IsDrainedLine seen.script (c seen has.ends) has.ends seen.standing new may
      drained =
          has.drained seen.script seen.standing (given (more seen has.ends ++ seen.halts))
          (later_steps seen) keeps.is_script keeps.keeps next (all_said seen has.ends keeps)

      counted : accepted (drain (c seen has.ends) seen.standing).turns
          ≡ accepted seen.standing.turns + length has.ends
      counted =
          ap (λ (z : Standing). accepted z.turns)
          (drain_is (c seen has.ends)
          (λ z w waits. (halted_drains_go_on seen.script.objects).1
          (given (more seen has.ends ++ seen.halts)) line
          (λ s. list_any (is_restart s) (later_steps seen)) z w waits)
          has.ends seen.standing drained.due drained.over)
          ∙ handed_over (c seen has.ends) has.ends seen.standing drained.due

      high : accepted seen.standing.turns + length has.ends
          ≤ accepted (after_step seen step (more seen has.ends)).standing.turns
      high =
          let same =
          ap (λ (z : Standing). accepted z.turns)
          (sym (held_is seen step old new might may keeps next (more seen has.ends))) ∙ counted in
          omega (arith, same)

      of_line : AreHaltsOfLine seen (after_step seen step (more seen has.ends)) (more seen has.ends)
      of_line = record {
        newest = from_newest (accepted seen.standing.turns) has.ends;
        low = from_low (accepted seen.standing.turns) has.ends;
        high =
            from_high (accepted seen.standing.turns)
            (accepted (after_step seen step (more seen has.ends)).standing.turns) has.ends high;
        lost = from_lost (accepted seen.standing.turns) has.ends;
      }

  -- Memory ran out in it.
  pub drain_part : IsPartOfDrain line old might new may → (seen : Seen)
      → KeepsBetween seen old might → IsNextStep seen step → HasDrainedPart seen step new may
  drain_part has seen keeps next = record {
    ends = has.ends;
    stands =
        (has.delivered seen.script seen.standing (given (more seen has.ends ++ seen.halts))
        (λ s. list_any (is_restart s) (later_steps seen)) keeps.is_script keeps.keeps
        (all_said seen has.ends keeps)).stands;
  }
