-- The line that is taken next of a run that is kept: what it comes to.
use Rattle.std.proofs.Common.{◌≡◌, ℕ, ◌+◌, ◌<◌, List, [], ◌∷◌, ◌++◌, length, Some, None, refl, sym}
use Rattle.std.proofs.Common.{ap, ◌∙◌, subst, arith, Result, Ok, Err}
use Rattle.std.specs.Prelude.{slice_get}
use Rattle.std.specs.List.{AllByRecursion}
use Rattle.std.proofs.lemmas.Bool.{eq-eqb, ne_eqb}
use Rattle.cam_event.specs.declared.LineRefusal.{LineRefusal}
use Rattle.cam_event.specs.Inputs.{Input}
use Rattle.cam_event.specs.Readings.{by_knowledge}
use Rattle.cam_node.specs.Log.{Logged}
use Rattle.cam_runs.specs.Halts.{Halt, accepted, given, halt_at}
use Rattle.cam_runs.specs.HaltedLines.{Passed, Refused, act, after_line}
use Rattle.cam_runs.specs.Standing.{Setting, Standing}
use Rattle.cam_runs.proofs.HaltedWhole.{halted_lines_agree}
use Rattle.cam_runs.proofs.Range.{script_in_range}
use Rattle.cam_script.specs.declared.Step.{Step}
use Rattle.cam_histories.specs.Lines.{line_refusal}
use Rattle.cam_cluster.specs.declared.LineFault.{LineFault}
use Rattle.cam_cluster.specs.declared.LineFault.TheVariants as line_faults
use Rattle.cam_cluster.specs.declared.works.Put.{Put}
use Rattle.cam_cluster.specs.declared.works.Put.TheVariants as puts
use Rattle.cam_cluster.specs.Between.{AreHaltsOfLine, EndsAreSaid, KeepsBetween, KeepsStep}
use Rattle.cam_cluster.specs.Between.{after_step, halts_from, HasBeenRefused, HasLedOn, IsStepOf}
use Rattle.cam_cluster.specs.Seen.{Seen, later_steps, setting_in}
use Rattle.cam_cluster.specs.SoFar.{IsLed, IsLineOfInput, IsRefused, KeepsLines, LinesFields}
use Rattle.cam_cluster.proofs.LinesRefused.{refusals_agree, refused_step}
use Rattle.cam_cluster.proofs.GoesOn.{goes_on}

-- what is said of the input that is put next
pub unsaid : (halts : List Halt) (k : ℕ) → AllByRecursion (λ (h : Halt). h.input < k) halts
    → halt_at halts k ≡ None
unsaid [] k all = refl
unsaid (h ∷ halts) k all =
    rw (ne_eqb h.input k (let less = all.0 in λ e. omega (arith, e, less))) (unsaid halts k all.1)

pub ends_are_said : EndsAreSaid
ends_are_said seen lines may step input puts.Stood keeps =
    unsaid seen.halts (accepted seen.standing.turns) keeps.past
ends_are_said seen lines may step input puts.Halted keeps =
    rw (eq-eqb (accepted seen.standing.turns) (accepted seen.standing.turns) refl) refl

-- the halts of a line of one input
one_end : (seen new : Seen) (done : Put)
    → accepted new.standing.turns ≡ accepted seen.standing.turns + 1
    → AreHaltsOfLine seen new (halts_from (accepted seen.standing.turns) (done ∷ []))
one_end seen new puts.Stood accepts_one = record { newest = tt; low = tt; high = tt; lost = tt }
one_end seen new puts.Halted accepts_one = record {
  newest = (tt, tt);
  low = (omega arith, tt);
  high = (omega (arith, accepts_one), tt);
  lost = (refl, tt);
}

-- The line of a run that is kept, which is taken next.
module _ (seen : Seen) (step : Step) (old new : LinesFields) (might may : ℕ → Logged → Type 0)
    (keeps : KeepsBetween seen old might)
    (next : slice_get seen.script.steps (length seen.standing.running.bound) ≡ Some step) where
  -- what it comes to by what nodes hold, with these halts of it
  abbrev held : List Halt → Passed
  held more =
      act (setting_in by_knowledge seen (more ++ seen.halts) step) seen.script.bodies seen.standing
      step.act

  pub held_is : (more : List Halt)
      → after_line seen.standing step.line (held more) ≡ (after_step seen step more).standing
  held_is more =
      ap (after_line seen.standing step.line)
      (halted_lines_agree seen.script seen.standing step (given (more ++ seen.halts))
      (later_steps seen) (script_in_range seen.script keeps.is_script) keeps.keeps.runs.under next)

  -- It led on, and put this input,
  pub led_goes : (input : Input) (done : Put)
      → let more = halts_from (accepted seen.standing.turns) (done ∷ []) in
      IsLed seen.script seen.standing
      (setting_in by_knowledge seen (more ++ seen.halts) step) step.act input done new may
      → accepted (after_line seen.standing step.line (held more)).turns
      ≡ accepted seen.standing.turns + 1
      → HasLedOn seen step new may
  led_goes input done led accepts_one =
      let more = halts_from (accepted seen.standing.turns) (done ∷ []) in
      let of_line =
      one_end seen (after_step seen step more) done
      (ap (λ (x : Standing). accepted x.turns) (sym (held_is more)) ∙ accepts_one) in
      record {
        more = more;
        of_line = of_line;
        passed = sym (refusals_agree seen old might step seen.halts keeps next) ∙ led.passed;
        stands =
            goes_on seen step more old new might may keeps next of_line
            (led.stands (ends_are_said seen old might step input done keeps));
      }

  -- with the halt of it, if it is one.
  pub led_halts : (input : Input) (done : Put)
      → let more = halts_from (accepted seen.standing.turns) (done ∷ []) in
      (led : IsLed seen.script seen.standing
      (setting_in by_knowledge seen (more ++ seen.halts) step) step.act input done new may)
      (counts : accepted (after_line seen.standing step.line (held more)).turns
      ≡ accepted seen.standing.turns + 1)
      → (led_goes input done led counts).more ≡ more
  unfolding led_goes
  led_halts input done led counts = refl

  -- It led on, and put none,
  pub done_goes : line_refusal (by_knowledge seen.script.objects) seen.standing step.act ≡ None
      → KeepsStep seen step [] new may → HasLedOn seen step new may
  done_goes passed stands =
      let of_line : AreHaltsOfLine seen (after_step seen step []) [] =
      record { newest = tt; low = tt; high = tt; lost = tt } in
      record {
        more = [];
        of_line = of_line;
        passed = sym (refusals_agree _ _ _ _ seen.halts keeps next) ∙ passed;
        stands = goes_on seen step [] old new might may keeps next of_line stands;
      }

  -- with no halt.
  pub done_halts : (passed : line_refusal (by_knowledge seen.script.objects) seen.standing step.act
      ≡ None) (kept : KeepsStep seen step [] new may) → (done_goes passed kept).more ≡ []
  unfolding done_goes
  done_halts passed kept = refl

  -- It was refused.
  pub refused_goes : (refusal : LineRefusal)
      → IsRefused seen.script seen.standing step.line step.act refusal new may
      → HasBeenRefused seen step refusal new may
  refused_goes refusal told = record {
    test = sym (refusals_agree seen old might step seen.halts keeps next) ∙ told.test;
    stands =
        goes_on seen step [] old new might may keeps next
        (record { newest = tt; low = tt; high = tt; lost = tt })
        (subst (λ (p : Passed). KeepsLines seen.script (after_line seen.standing step.line p) new
        may) (sym (refused_step seen step refusal told.test))
        told.stands);
  }

  -- Memory ran out.
  pub wanting_goes : KeepsLines seen.script seen.standing new may → KeepsBetween seen new may
  wanting_goes same = record {
    is_script = keeps.is_script;
    keeps = same;
    between = keeps.between;
    newest = keeps.newest;
    past = keeps.past;
    lost = keeps.lost;
  }

  -- A line of one input goes on.
  pub one_input_goes : (input : Input) (result : Result Put LineFault)
      → IsLineOfInput step.line step.act input old might new may result
      → ((c : Setting) → c.reading ≡ by_knowledge seen.script.objects
      → line_refusal (by_knowledge seen.script.objects) seen.standing step.act ≡ None
      → accepted (after_line seen.standing step.line
      (act c seen.script.bodies seen.standing step.act)).turns
      ≡ accepted seen.standing.turns + 1)
      → IsStepOf seen step new may result
  one_input_goes input (Ok done) line accepts_one =
      let more = halts_from (accepted seen.standing.turns) (done ∷ []) in
      let led =
      line seen.script seen.standing (given (more ++ seen.halts)) (later_steps seen)
      keeps.is_script keeps.keeps next in
      led_goes input done led
      (accepts_one (setting_in by_knowledge seen (more ++ seen.halts) step) refl led.passed)
  one_input_goes input (Err (line_faults.Refused refusal)) line accepts_one =
      refused_goes refusal
      (line seen.script seen.standing (given seen.halts) (later_steps seen) keeps.is_script
      keeps.keeps next)
  one_input_goes input (Err line_faults.NoMemory) line accepts_one =
      wanting_goes
      (line seen.script seen.standing (given seen.halts) (later_steps seen) keeps.is_script
      keeps.keeps next)
