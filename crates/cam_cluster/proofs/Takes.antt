-- The next line of a script, taken, over its own clause.
use Rattle.std.proofs.Common.{◌≡◌, ℕ, ◌≤◌, [], ◌∷◌, ◌++◌, Option, Some, None, refl, sym}
use Rattle.std.proofs.Common.{Result, Ok, Err, length, subst, ◌⊎◌, inl, inr}
use Rattle.std.proofs.lemmas.Bool.{and_parts}
use Rattle.cam_event.specs.Inputs.{Input, Begins, Receives}
use Rattle.cam_event.specs.Readings.{by_knowledge}
use Rattle.cam_node.specs.Log.{Logged}
use Rattle.cam_runs.specs.Halts.{accepted, given}
use Rattle.cam_script.specs.declared.Act.{Act}
use Rattle.cam_script.specs.declared.Act.TheVariants as acts
use Rattle.cam_script.specs.declared.Step.{Step}
use Rattle.cam_script.specs.Law.{is_node}
use Rattle.cam_histories.specs.Lines.{line_refusal}
use Rattle.cam_cluster.specs.declared.LineFault.{LineFault}
use Rattle.cam_cluster.specs.declared.LineFault.TheVariants as line_faults
use Rattle.cam_cluster.specs.declared.works.Put.{Put}
use Rattle.cam_cluster.specs.Between.{IsStepOf, halts_from}
use Rattle.cam_cluster.specs.LetterLines.{IsDelivery}
use Rattle.cam_cluster.specs.LetterLines as letters
use Rattle.cam_cluster.specs.Seen.{later_steps, setting_in}
use Rattle.cam_cluster.specs.SoFar.{AreLinesOfSome, IsLed, IsLineOfInput, LinesFields}
use Rattle.cam_cluster.specs.Taking.{IsInputLine, PutsInput}
use Rattle.cam_cluster.specs.VariableLines.{IsVariableLine, IsNextOfSome}
use Rattle.cam_cluster.proofs.Counted.{input_counts}
use Rattle.cam_cluster.proofs.NextLine.{led_goes, one_input_goes, refused_goes, wanting_goes}
use Rattle.cam_cluster.proofs.StepHolds.{next_holds, node_within}

-- The other lines put no input, or many.
pub puts_none : (a : Act) → PutsInput a
    → ((x : ℕ) × (a ≡ acts.Go x))
    ⊎ (((x : ℕ) × (y : ℕ) × (a ≡ acts.Cut x y))
    ⊎ (((x : ℕ) × (a ≡ acts.Lose x))
    ⊎ (((x : ℕ) × (a ≡ acts.Restart x))
    ⊎ ((a ≡ acts.Drain) ⊎ ((a ≡ acts.Play) ⊎ ((x : ℕ) × (y : ℕ) × (a ≡ acts.Stop x y)))))))
    → ⊥
puts_none a puts (inl go) = subst PutsInput go.1 puts
puts_none a puts (inr (inl cut)) = subst PutsInput cut.2 puts
puts_none a puts (inr (inr (inl lose))) = subst PutsInput lose.1 puts
puts_none a puts (inr (inr (inr (inl restart)))) = subst PutsInput restart.1 puts
puts_none a puts (inr (inr (inr (inr (inl drain))))) = subst PutsInput drain puts
puts_none a puts (inr (inr (inr (inr (inr (inl play)))))) = subst PutsInput play puts
puts_none a puts (inr (inr (inr (inr (inr (inr stop)))))) = subst PutsInput stop.2 puts

-- of a run that is kept with its next line
pub some_lines : (line : ℕ) (act_is : Act) (lines : LinesFields) (may : ℕ → Logged → Type 0)
    → IsNextOfSome line act_is lines may → AreLinesOfSome lines may
some_lines line act_is lines may some = record {
  script = some.script;
  standing = some.standing;
  is_script = some.is_script;
  keeps = some.keeps;
}

-- the node of a line that begins an action
pub begins_within : (line s : ℕ) (lines : LinesFields) (may : ℕ → Logged → Type 0)
    → IsNextOfSome line (acts.Begin s) lines may
    → (1 ≤ s) × (s ≤ length lines.works.nodes)
begins_within line s lines may some =
    let holds = next_holds some.script some.standing line (acts.Begin s) some.is_script some.next in
    let within = node_within _ _ holds.1 in
    (within.0, rw some.keeps.runs.one_each within.1)

pub starts_within : (line s body : ℕ) (lines : LinesFields) (may : ℕ → Logged → Type 0)
    → IsNextOfSome line (acts.Start s body) lines may
    → (1 ≤ s) × (s ≤ length lines.works.nodes)
starts_within line s body lines may some =
    let holds =
    next_holds some.script some.standing line (acts.Start s body) some.is_script some.next in
    let within =
    node_within _ _ (and_parts (is_node some.script.nodes s) _ holds.1).0 in
    (within.0, rw some.keeps.runs.one_each within.1)

module _ (step : Step) (old new : LinesFields) (might may : ℕ → Logged → Type 0)
    (result : Result Put LineFault) (puts : PutsInput step.act) where
  -- a line of this input,
  pub input_line : (input : Input)
      → IsLineOfInput step.line step.act input old might new may result
      → IsInputLine step old might new may result
  input_line input line seen keeps next =
      one_input_goes seen step old new might may keeps next input result line
      (λ c reading passed. input_counts c seen.standing step.line seen.script.bodies step.act puts
      (subst (λ r. line_refusal r seen.standing step.act ≡ None) (sym reading) passed))

  -- of the input that a variable gives,
  pub line_by : (its : Option Input)
      → IsVariableLine step.line step.act its old might new may result
      → IsInputLine step old might new may result
  line_by (Some input) line = input_line input (line input refl)
  line_by None line = input_line (Begins 1) (line (Begins 1) tt)

  -- or of a letter.
  pub letter_line : (number : ℕ) → step.act ≡ acts.Deliver number
      → letters.IsLineBy step.line step.act (IsDelivery number) old might new may result
      → IsInputLine step old might new may result
  letter_line number is line seen keeps next = by result refl
    where
      by : (r : Result Put LineFault) → r ≡ result → IsStepOf seen step new may r
      by (Ok done) same =
          let more = halts_from (accepted seen.standing.turns) (done ∷ []) in
          let at =
          subst (λ (x : Result Put LineFault). letters.IsEndedBy (IsDelivery number) seen.script
          seen.standing (setting_in by_knowledge seen (more ++ seen.halts) step) step.act new may x)
          (sym same)
          (line seen.script seen.standing (given (more ++ seen.halts)) (later_steps seen)
          keeps.is_script keeps.keeps next) in
          let led =
          subst (λ (a : Act). IsLed seen.script seen.standing
          (setting_in by_knowledge seen (more ++ seen.halts) step) a (Receives at.letter) done new
          may) (sym is) at.led in
          led_goes seen step old new might may keeps next (Receives at.letter) done led
          (input_counts (setting_in by_knowledge seen (more ++ seen.halts) step) seen.standing
          step.line seen.script.bodies step.act puts led.passed)
      by (Err (line_faults.Refused refusal)) same =
          refused_goes seen step old new might may keeps next refusal
          (subst (λ (x : Result Put LineFault). letters.IsEndedBy (IsDelivery number) seen.script
          seen.standing (setting_in by_knowledge seen seen.halts step) step.act new may x)
          (sym same)
          (line seen.script seen.standing (given seen.halts) (later_steps seen) keeps.is_script
          keeps.keeps next))
      by (Err line_faults.NoMemory) same =
          wanting_goes seen step old new might may keeps next
          (subst (λ (x : Result Put LineFault). letters.IsEndedBy (IsDelivery number) seen.script
          seen.standing (setting_in by_knowledge seen seen.halts step) step.act new may x)
          (sym same)
          (line seen.script seen.standing (given seen.halts) (later_steps seen) keeps.is_script
          keeps.keeps next))
