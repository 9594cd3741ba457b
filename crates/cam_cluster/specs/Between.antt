-- What a cluster keeps between lines: the lines so far, as those of the run with the halts that are
-- known; and what one line more makes of it.
use Rattle.std.specs.Prelude.{◌≡◌, ◌≤◌, ◌<◌, ℕ, ◌+◌, false, List, [], ◌∷◌, ◌++◌, Some, None}
use Rattle.std.specs.Prelude.{Result, Ok, Err}
use Rattle.std.specs.List.{AllByRecursion}
use Rattle.cam_event.specs.declared.LineRefusal.{LineRefusal}
use Rattle.cam_event.specs.Inputs.{Input}
use Rattle.cam_event.specs.Readings.{by_knowledge, by_pasts}
use Rattle.cam_node.specs.Log.{Logged}
use Rattle.cam_runs.specs.Halts.{Halt, accepted}
use Rattle.cam_runs.specs.HaltedLines.{act, after_line}
use Rattle.cam_script.specs.declared.Step.{Step}
use Rattle.cam_script.specs.Law.{IsScript}
use Rattle.cam_histories.specs.InputLaws.{halt_of}
use Rattle.cam_histories.specs.Lines.{line_refusal}
use Rattle.cam_cluster.specs.declared.LineFault.{LineFault}
use Rattle.cam_cluster.specs.declared.LineFault.TheVariants as line_faults
use Rattle.cam_cluster.specs.declared.works.Put.{Put}
use Rattle.cam_cluster.specs.declared.works.Put.TheVariants as puts
use Rattle.cam_cluster.specs.FoundHalts.{AreLostSoFar, AreNewestFirst, with_taken}
use Rattle.cam_cluster.specs.Puts.{as_halt}
use Rattle.cam_cluster.specs.Seen.{IsBetweenLines, IsNextStep, Seen, lines_taken, run_of_lines}
use Rattle.cam_cluster.specs.Seen.{setting_in}
use Rattle.cam_cluster.specs.SoFar.{KeepsLines, LinesFields}

-- The halts that are known are at inputs that were put. Each node that is halted halted at its last
-- input, and the event is lost so far.
pub record KeepsBetween (seen : Seen) (lines : LinesFields)
    (may_read : ℕ → Logged → Type 0) : Type 0 where
  pub is_script : IsScript seen.script
  pub keeps : KeepsLines seen.script seen.standing lines may_read
  pub between : IsBetweenLines seen
  pub newest : AreNewestFirst seen.halts
  pub past : AllByRecursion (λ (h : Halt). h.input < accepted seen.standing.turns) seen.halts
  pub lost : AreLostSoFar seen.standing seen.halts

-- the lines so far, where the last halt of a node was found to be taken
abbrev pub seen_found : Seen → ℕ → Seen
seen_found seen s =
    let found = with_taken seen.standing.turns s seen.halts in record {
      script = seen.script;
      standing = run_of_lines by_pasts seen.script found (lines_taken seen);
      halts = found;
    }

-- the line taken, with these halts of it, the newest first
abbrev pub after_step : Seen → Step → List Halt → Seen
after_step seen step more =
    record {
      script = seen.script;
      standing =
          after_line seen.standing step.line
          (act (setting_in by_pasts seen (more ++ seen.halts) step) seen.script.bodies
          seen.standing step.act);
      halts = more ++ seen.halts;
    }

-- what the line comes to by what nodes hold
abbrev pub KeepsStep : Seen → Step → List Halt → LinesFields → (ℕ → Logged → Type 0) → Type 0
KeepsStep seen step more new may_read =
    KeepsLines seen.script
    (after_line seen.standing step.line
    (act (setting_in by_knowledge seen (more ++ seen.halts) step) seen.script.bodies seen.standing
    step.act))
    new may_read

-- The halts of a line are at inputs that were put in it, and lost so far.
pub record AreHaltsOfLine (seen new : Seen) (more : List Halt) : Type 0 where
  pub newest : AreNewestFirst more
  pub low :
      AllByRecursion (λ (h : Halt). accepted seen.standing.turns ≤ h.input) more
  pub high :
      AllByRecursion (λ (h : Halt). h.input < accepted new.standing.turns) more
  pub lost : AllByRecursion (λ (h : Halt). h.took ≡ false) more

-- So the lines go on: what is kept after a line is what is kept between lines.
abbrev pub LinesGoOn : Type 1
LinesGoOn =
    (seen : Seen) (step : Step) (more : List Halt) (old new : LinesFields)
    (might_read may_read : ℕ → Logged → Type 0)
    → KeepsBetween seen old might_read → IsNextStep seen step
    → AreHaltsOfLine seen (after_step seen step more) more
    → KeepsStep seen step more new may_read
    → KeepsBetween (after_step seen step more) new may_read

-- the halts of inputs that were put one after another from this number on, by how each ended, the
-- newest first: lost so far
abbrev pub halts_from : ℕ → List Put → List Halt
halts_from k [] = []
halts_from k (puts.Stood ∷ ends) = halts_from (k + 1) ends
halts_from k (puts.Halted ∷ ends) =
    halts_from (k + 1) ends ++ record { input = k; took = false } ∷ []

-- Halts at inputs before say nothing of this one, so with the halt of its end they say exactly that.
abbrev pub EndsAreSaid : Type 1
EndsAreSaid =
    (seen : Seen) (lines : LinesFields) (may_read : ℕ → Logged → Type 0) (step : Step)
    (input : Input) (done : Put) → KeepsBetween seen lines may_read
    → halt_of (setting_in by_knowledge seen
    (halts_from (accepted seen.standing.turns) (done ∷ []) ++ seen.halts) step) seen.standing input
    ≡ as_halt done

-- A line led on: no test refuses it, and it is taken, with these halts of it.
pub record HasLedOn (seen : Seen) (step : Step) (new : LinesFields)
    (may_read : ℕ → Logged → Type 0) : Type 0 where
  pub more : List Halt
  pub of_line : AreHaltsOfLine seen (after_step seen step more) more
  pub passed :
      line_refusal (by_pasts seen.script.objects) seen.standing step.act ≡ None
  pub stands : KeepsBetween (after_step seen step more) new may_read

-- A line was refused, by the first test that fails.
pub record HasBeenRefused (seen : Seen) (step : Step) (refusal : LineRefusal) (new : LinesFields)
    (may_read : ℕ → Logged → Type 0) : Type 0 where
  pub test :
      line_refusal (by_pasts seen.script.objects) seen.standing step.act ≡ Some refusal
  pub stands : KeepsBetween (after_step seen step []) new may_read

-- how a line of one input ends, by the pasts of events
abbrev pub IsStepOf : Seen → Step → LinesFields → (ℕ → Logged → Type 0)
    → Result Put LineFault → Type 0
IsStepOf seen step new may_read (Ok done) = HasLedOn seen step new may_read
IsStepOf seen step new may_read (Err (line_faults.Refused refusal)) =
    HasBeenRefused seen step refusal new may_read
IsStepOf seen step new may_read (Err line_faults.NoMemory) = KeepsBetween seen new may_read
