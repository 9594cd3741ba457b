-- The next line of a script, taken: how it ends, by the pasts of events, with the halts that are
-- known then.
use Rattle.std.specs.Prelude.{◌≡◌, ℕ, List, ◌++◌, length, Option, Result, Ok, Err}
use Rattle.cam_bytes.specs.declared.WireFault.{WireFault}
use Rattle.cam_event.specs.Readings.{by_knowledge}
use Rattle.cam_node.specs.Log.{Logged}
use Rattle.cam_runs.specs.Halts.{accepted}
use Rattle.cam_runs.specs.Standing.{deliveries}
use Rattle.cam_script.specs.declared.Act.{Act}
use Rattle.cam_script.specs.declared.Act.TheVariants as acts
use Rattle.cam_script.specs.declared.Step.{Step}
use Rattle.cam_cluster.specs.declared.LineFault.{LineFault}
use Rattle.cam_cluster.specs.declared.LineFault.TheVariants as line_faults
use Rattle.cam_cluster.specs.declared.works.Put.{Put}
use Rattle.cam_cluster.specs.Between.{HasBeenRefused, HasLedOn, IsStepOf, KeepsBetween}
use Rattle.cam_cluster.specs.Between.{halts_from}
use Rattle.cam_cluster.specs.LetterLines.{cut_fault}
use Rattle.cam_cluster.specs.Seen.{IsNextStep, Seen, setting_in}
use Rattle.cam_cluster.specs.SoFar.{KeepsLines, LinesFields}

-- a line that puts one input where no test refuses it
abbrev pub PutsInput : Act → Type 0
PutsInput (acts.Begin s) = Unit {0}
PutsInput (acts.Start s body) = Unit {0}
PutsInput (acts.Ask p m) = Unit {0}
PutsInput (acts.Call v x op) = Unit {0}
PutsInput (acts.Commit v value) = Unit {0}
PutsInput (acts.Abort v) = Unit {0}
PutsInput (acts.GiveUp v w) = Unit {0}
PutsInput (acts.Deliver k) = Unit {0}
PutsInput (acts.Tell s to) = Unit {0}
PutsInput (acts.Query s v) = Unit {0}
PutsInput _ = ⊥

-- THE CLAUSE of such a line: of each run that is kept between lines and whose next step it is
abbrev pub IsInputLine : Step → LinesFields → (ℕ → Logged → Type 0) → LinesFields
    → (ℕ → Logged → Type 0) → Result Put LineFault → Type 0
IsInputLine step old might_read new may_read result =
    (seen : Seen) → KeepsBetween seen old might_read → IsNextStep seen step
    → IsStepOf seen step new may_read result

-- a line that the lines take by themselves: one that puts an input, loses a letter or cuts one, or
-- drains the network
abbrev pub IsTakenAlone : Act → Type 0
IsTakenAlone acts.Drain = Unit {0}
IsTakenAlone (acts.Lose k) = Unit {0}
IsTakenAlone (acts.Cut k bytes) = Unit {0}
IsTakenAlone act = PutsInput act

-- Memory ran out in a drain: so many letters were handed over, and these are the ends. What stands
-- then is no longer between lines.
pub record HasDrainedPart (seen : Seen) (step : Step) (new : LinesFields)
    (may_read : ℕ → Logged → Type 0) : Type 0 where
  pub ends : List Put
  pub stands :
      KeepsLines seen.script
      (deliveries
      (setting_in by_knowledge seen
      (halts_from (accepted seen.standing.turns) ends ++ seen.halts) step)
      (length ends) seen.standing)
      new may_read

-- what is kept where memory ran out
abbrev pub IsWanting : Act → Seen → Step → LinesFields → (ℕ → Logged → Type 0) → Type 0
IsWanting acts.Drain seen step new may_read = HasDrainedPart seen step new may_read
IsWanting _ seen step new may_read = KeepsBetween seen new may_read

-- how a line ends: it leads on, and tells the fault of a letter that it cut short; or it is
-- refused; or memory ran out
abbrev pub IsTakenAs : Seen → Step → LinesFields → (ℕ → Logged → Type 0)
    → Result (Option WireFault) LineFault → Type 0
IsTakenAs seen step new may_read (Ok bad) =
    HasLedOn seen step new may_read
    × (bad ≡ cut_fault (by_knowledge seen.script.objects) seen.standing step.act)
IsTakenAs seen step new may_read (Err (line_faults.Refused refusal)) =
    HasBeenRefused seen step refusal new may_read
IsTakenAs seen step new may_read (Err line_faults.NoMemory) =
    IsWanting step.act seen step new may_read

-- THE CLAUSE of a line that is taken
abbrev pub IsStepTaken : Step → LinesFields → (ℕ → Logged → Type 0) → LinesFields
    → (ℕ → Logged → Type 0) → Result (Option WireFault) LineFault → Type 0
IsStepTaken step old might_read new may_read result =
    (seen : Seen) → KeepsBetween seen old might_read → IsNextStep seen step
    → IsTakenAs seen step new may_read result
