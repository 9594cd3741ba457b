-- Halts that agree with the lines that stop disks, with those of a line, go on agreeing after it.
use Rattle.std.proofs.Common.{ℕ, ◌<◌, ◌≤◌, Bool, true, false, if◌then◌else◌}
use Rattle.std.proofs.Common.{List, ◌∷◌, ◌++◌, sym, subst}
use Rattle.std.specs.List.{AllByRecursion}
use Rattle.cam_runs.specs.Halts.{Halt, Halting, Stop, accepted, given}
use Rattle.cam_runs.specs.Running.{has_number}
use Rattle.cam_runs.specs.Standing.{Standing}
use Rattle.cam_script.specs.declared.Step.{Step}
use Rattle.cam_cluster.specs.Between.{AreHaltsOfLine, after_step}
use Rattle.cam_cluster.specs.Seen.{Seen}
use Rattle.cam_cluster.specs.KnownHalts.{AgreesAt}
use Rattle.cam_cluster.specs.Stopping.{IsAsStopped}
use Rattle.cam_cluster.proofs.Extends.{NoneTaken}
use Rattle.cam_cluster.proofs.Begun.{begun}
use Rattle.cam_cluster.proofs.NodeAgrees.{later_agrees}
use Rattle.cam_cluster.proofs.LostLines.{begun_accepts, none_taken, step_extends}

-- A line that stops a disk is no input.
pub stop_agrees : (halts : Halting) (st : Standing) (s calls m : ℕ) → AgreesAt m halts st
    → AgreesAt m halts (if has_number st.halted s then st
    else record st { turns = Stop s calls ∷ st.turns })
stop_agrees halts st s calls m agrees = by (has_number st.halted s)
  where
    by : (b : Bool)
        → AgreesAt m halts (if b then st else record st { turns = Stop s calls ∷ st.turns })
    by true = agrees
    by false = agrees

module _ (seen : Seen) (step : Step) (more : List Halt) where
  abbrev after : Standing
  after = (after_step seen step more).standing

  pub line_agrees : AreHaltsOfLine seen (after_step seen step more) more
      → AllByRecursion (λ (h : Halt). h.input < accepted seen.standing.turns) seen.halts
      → (m : ℕ) → IsAsStopped (has_number after.halted m) after.turns m
      → AgreesAt m (given seen.halts) (begun seen.standing step.act)
      → AgreesAt m (given (more ++ seen.halts)) after
  line_agrees halts past m so agrees =
      (step_extends seen step more).agrees
      (subst (λ (n : ℕ). NoneTaken (more ++ seen.halts) n)
      (sym (begun_accepts step.act seen.standing))
      (none_taken more seen.halts (accepted seen.standing.turns) past halts.lost))
      m so
      (later_agrees more seen.halts (begun seen.standing step.act) m
      (subst (λ (n : ℕ). AllByRecursion (λ (h : Halt). n ≤ h.input) more)
      (sym (begun_accepts step.act seen.standing)) halts.low) agrees)
