-- A line by the arm of its act, with lines as they are seen.
use Rattle.std.proofs.Common.{◌≡◌, ℕ, ◌≤◌, length, Option, Result, sym, subst}
use Rattle.std.proofs.lemmas.List.{length-map}
use Rattle.cam_bytes.specs.declared.WireFault.{WireFault}
use Rattle.cam_ckpt.specs.declared.checkpoint_log.CheckpointLog.{Ghosts as CkptGhosts}
use Rattle.cam_event.specs.Inputs.{Input}
use Rattle.cam_log.specs.declared.entry_log.EntryLog.{Ghosts as LogGhosts}
use Rattle.cam_script.specs.declared.Act.{Act}
use Rattle.cam_script.specs.declared.Act.TheVariants as acts
use Rattle.cam_script.specs.declared.Step.{Step}
use Rattle.cam_cluster.specs.declared.LineFault.{LineFault}
use Rattle.cam_cluster.specs.declared.lines.Lines.{Lines}
use Rattle.cam_cluster.specs.declared.works.Put.{Put}
use Rattle.cam_cluster.specs.LetterLines.{IsDelivery}
use Rattle.cam_cluster.specs.LetterLines as letters
use Rattle.cam_cluster.specs.SoFar.{AreLinesOfSome, IsLineOfInput}
use Rattle.cam_cluster.specs.Taking.{IsInputLine, IsStepTaken, PutsInput}
use Rattle.cam_cluster.specs.VariableLines.{IsVariableLine, IsNextOfSome}
use Rattle.cam_cluster.proofs.AsSeen.{lines_of, part, reads_of}
use Rattle.cam_cluster.proofs.Takes.{begins_within, input_line, letter_line, line_by, some_lines}
use Rattle.cam_cluster.proofs.Takes.{starts_within}

module _ {X : Type 0} {g : CkptGhosts X} {h : LogGhosts X} (step : Step) (old : Lines X g h) where
  -- some run is kept whose next line has this act
  abbrev pub IsNext : Act → Type 0
  IsNext act_is = IsNextOfSome step.line act_is (lines_of g h old) (reads_of g h old.works)

  pub next_as : (act_is : Act) → step.act ≡ act_is → IsNext step.act → IsNext act_is
  next_as act_is is next = rw (← is) next

  pub stands_before : IsNext step.act → AreLinesOfSome (lines_of g h old) (reads_of g h old.works)
  stands_before next = some_lines _ _ _ _ next

  -- the node of a line that begins an action
  pub begin_node : (s : ℕ) → step.act ≡ acts.Begin s → IsNext step.act
      → (1 ≤ s) × (s ≤ length old.works.nodes.items)
  begin_node s is next =
      let within =
      begins_within _ _ _ _ (next_as (acts.Begin s) is next) in
      (within.0, rw (← (length-map old.works.nodes.items (part g h))) within.1)

  pub start_node : (s body : ℕ) → step.act ≡ acts.Start s body → IsNext step.act
      → (1 ≤ s) × (s ≤ length old.works.nodes.items)
  start_node s body is next =
      let within =
      starts_within _ _ _ _ _ (next_as (acts.Start s body) is next) in
      (within.0, rw (← (length-map old.works.nodes.items (part g h))) within.1)

  module _ (new : Lines X g h) where
    -- a line that was taken
    pub taken_as : (act_is : Act) (result : Result (Option WireFault) LineFault)
        → step.act ≡ act_is
        → IsStepTaken (record { line = step.line; act = act_is }) (lines_of g h old)
        (reads_of g h old.works) (lines_of g h new) (reads_of g h new.works) result
        → IsStepTaken step (lines_of g h old) (reads_of g h old.works) (lines_of g h new)
        (reads_of g h new.works) result
    taken_as act_is result is line = rw is line

    -- one that put an input,
    module _ (result : Result Put LineFault) (puts : PutsInput step.act) where
      -- the clause of such a line, and of one of the input that a variable gives
      abbrev pub IsInputLineAs : Act → Input → Type 0
      IsInputLineAs act_is input =
          IsLineOfInput step.line act_is input (lines_of g h old) (reads_of g h old.works)
          (lines_of g h new) (reads_of g h new.works) result

      abbrev pub IsVariableLineAs : Act → Option Input → Type 0
      IsVariableLineAs act_is its =
          IsVariableLine step.line act_is its (lines_of g h old) (reads_of g h old.works)
          (lines_of g h new) (reads_of g h new.works) result

      abbrev pub IsPut : Type 0
      IsPut =
          IsInputLine step (lines_of g h old) (reads_of g h old.works) (lines_of g h new)
          (reads_of g h new.works) result

      pub input_as : (act_is : Act) (input : Input) → step.act ≡ act_is
          → IsInputLineAs act_is input → IsPut
      input_as act_is input is line =
          input_line step (lines_of g h old) (lines_of g h new) (reads_of g h old.works)
          (reads_of g h new.works) result puts input
          (subst (λ (a : Act). IsInputLineAs a input) (sym is) line)

      pub variable_as : (act_is : Act) (its : Option Input) → step.act ≡ act_is
          → IsVariableLineAs act_is its → IsPut
      variable_as act_is its is line =
          line_by step (lines_of g h old) (lines_of g h new) (reads_of g h old.works)
          (reads_of g h new.works) result puts its
          (subst (λ (a : Act). IsVariableLineAs a its) (sym is) line)

      -- and one that handed a letter over
      pub letter_as : (number : ℕ) → step.act ≡ acts.Deliver number
          → letters.IsLineBy step.line (acts.Deliver number) (IsDelivery number) (lines_of g h old)
          (reads_of g h old.works) (lines_of g h new) (reads_of g h new.works) result → IsPut
      letter_as number is line =
          letter_line step (lines_of g h old) (lines_of g h new) (reads_of g h old.works)
          (reads_of g h new.works) result puts number is
          (subst (λ (a : Act). letters.IsLineBy step.line a (IsDelivery number) (lines_of g h old)
          (reads_of g h old.works) (lines_of g h new) (reads_of g h new.works) result) (sym is)
          line)
