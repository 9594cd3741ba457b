-- A play is taken: by the pasts of events, with the halts of its inputs.
use Rattle.std.proofs.Common.{◌≡◌, ℕ, ◌+◌, ◌≤◌, List, ◌++◌, length, refl, sym, subst}
use Rattle.std.proofs.Common.{None, arith}
use Rattle.std.specs.List.{list_any}
use Rattle.cam_event.specs.Readings.{by_knowledge}
use Rattle.cam_node.specs.Log.{Logged}
use Rattle.cam_runs.specs.Halts.{Halt, accepted, given}
use Rattle.cam_runs.specs.HaltedLines.{Led, act, after_line, is_restart}
use Rattle.cam_runs.specs.HaltedPlaying.{play}
use Rattle.cam_runs.specs.Standing.{Setting, Standing}
use Rattle.cam_script.specs.declared.Statement.{Statement}
use Rattle.cam_script.specs.declared.Act.TheVariants as acts
use Rattle.cam_script.specs.declared.Step.{Step}
use Rattle.cam_cluster.specs.declared.works.Put.{Put}
use Rattle.cam_cluster.specs.declared.workers.Workers.{Workers}
use Rattle.cam_cluster.specs.Between.{AreHaltsOfLine, KeepsBetween, after_step}
use Rattle.cam_cluster.specs.Between.{halts_from}
use Rattle.cam_cluster.specs.BodiesAtNodes.{BodiesAreAtNodes}
use Rattle.cam_cluster.specs.Making.{AreCounted, AreSaidFrom}
use Rattle.cam_cluster.specs.Plays.{HasPlayedSoFar, IsLineOfPlay, IsPartOfPlay, IsPlayOfSome}
use Rattle.cam_cluster.specs.Plays.{IsPlayedLine, play_step}
use Rattle.cam_cluster.specs.Seen.{IsNextStep, Seen, later_steps, lines_taken, setting_in}
use Rattle.cam_cluster.specs.SoFar.{LinesFields}
use Rattle.cam_cluster.specs.Workers.{AreWorkers}
use Rattle.cam_cluster.proofs.BodiesAtNodes.{runs_have_bodies_at_nodes}
use Rattle.cam_cluster.proofs.Counts.{counted_as}
use Rattle.cam_cluster.proofs.EndsSaid.{from_high, from_lost, from_low, from_newest, given_said}
use Rattle.cam_cluster.proofs.GoesOn.{goes_on}
use Rattle.cam_cluster.proofs.NextLine.{held_is}

-- The line led on, with the halts of these ends, and the workers are those after it.
pub record HasTakenPlay (seen : Seen) (step : Step) (ends : List Put) (new : LinesFields)
    (may : ℕ → Logged → Type 0) (after : Workers) : Type 0 where
  pub of_line :
      AreHaltsOfLine seen
      (after_step seen step (halts_from (accepted seen.standing.turns) ends))
      (halts_from (accepted seen.standing.turns) ends)
  pub stands :
      KeepsBetween (after_step seen step (halts_from (accepted seen.standing.turns) ends)) new may
  pub workers :
      AreWorkers
      (after_step seen step (halts_from (accepted seen.standing.turns) ends)).standing after
  pub counted :
      AreCounted seen.standing
      (after_step seen step (halts_from (accepted seen.standing.turns) ends)).standing ends

module _ (line : ℕ) (bodies : List (List Statement)) (old new : LinesFields)
    (might may : ℕ → Logged → Type 0) (before after : Workers) where
  abbrev step : Step
  step = play_step line

  -- what is known with the halts of these ends
  module _ (seen : Seen) (ends : List Put) where
    abbrev more : List Halt
    more = halts_from (accepted seen.standing.turns) ends

    abbrev c : Setting
    c = setting_in by_knowledge seen (more ++ seen.halts) step

    all_said : KeepsBetween seen old might
        → AreSaidFrom (given (more ++ seen.halts)) (accepted seen.standing.turns) ends
    all_said keeps = given_said _ _ _ _ refl keeps.past

  pub play_taken : (has : IsLineOfPlay line bodies old might before new may after) (seen : Seen)
      → KeepsBetween seen old might → AreWorkers seen.standing before → IsNextStep seen step
      → bodies ≡ seen.script.bodies → HasTakenPlay seen step has.ends new may after
  play_taken has seen keeps are next bodies_are = record {
    of_line = of_line;
    stands =
        goes_on seen step (more seen has.ends) old new might may keeps next of_line
        played.stands.lines;
    workers = subst (λ (z : Standing). AreWorkers z after) same played.stands.workers;
    counted = counted;
  }
    where
      played : IsPlayedLine seen.script seen.standing (c seen has.ends) has.ends new may after
      played =
          has.played seen.script seen.standing (given (more seen has.ends ++ seen.halts))
          (later_steps seen) keeps.is_script bodies_are
          (record { lines = keeps.keeps; workers = are }) next (all_said seen has.ends keeps)

      same : after_line seen.standing line
          (act (c seen has.ends) seen.script.bodies seen.standing acts.Play)
          ≡ (after_step seen step (more seen has.ends)).standing
      same = held_is seen step old new might may keeps next (more seen has.ends)

      counted : AreCounted seen.standing (after_step seen step (more seen has.ends)).standing
          has.ends
      counted =
          rw (← same) (led_counted (play (c seen has.ends) seen.script.bodies seen.standing) played.counted)
        where
          led_counted : (z : Standing) → AreCounted seen.standing z has.ends
              → AreCounted seen.standing (after_line seen.standing line (Led z None)) has.ends
          led_counted z one = counted_as _ _ _ _ refl refl refl one

      high : accepted seen.standing.turns + length has.ends
          ≤ accepted (after_step seen step (more seen has.ends)).standing.turns
      high = let inputs = counted.inputs in omega (arith, inputs)

      of_line : AreHaltsOfLine seen (after_step seen step (more seen has.ends)) (more seen has.ends)
      of_line = record {
        newest = from_newest _ has.ends;
        low = from_low _ has.ends;
        high = from_high _ _ _ high;
        lost = from_lost (accepted seen.standing.turns) has.ends;
      }

  -- Memory ran out in it.
  pub play_part_taken : IsPartOfPlay line bodies old might before new may after → (seen : Seen)
      → KeepsBetween seen old might → AreWorkers seen.standing before
      → bodies ≡ seen.script.bodies → HasPlayedSoFar seen step new may after
  play_part_taken has seen keeps are bodies_are = record {
    whole = has.whole;
    requests = has.requests;
    number = has.number;
    ends = has.ends;
    stands =
        (has.played seen.script seen.standing (given (more seen has.ends ++ seen.halts))
        (λ s. list_any (is_restart s) (later_steps seen)) keeps.is_script bodies_are
        (record { lines = keeps.keeps; workers = are }) (all_said seen has.ends keeps)).stands;
  }

-- What is kept between lines has its actions with a body at nodes of the script.
pub play_of_some : (seen : Seen) (bodies : List (List Statement)) (lines : LinesFields)
    (may : ℕ → Logged → Type 0) (workers : Workers) → KeepsBetween seen lines may
    → AreWorkers seen.standing workers → bodies ≡ seen.script.bodies
    → IsPlayOfSome bodies lines.works may workers
play_of_some seen bodies lines may workers keeps are bodies_are = record {
  script = seen.script;
  standing = seen.standing;
  is_script = keeps.is_script;
  bodies_are = bodies_are;
  keeps = record { runs = keeps.keeps.runs; workers = are };
  placed =
      subst (λ (z : Standing). BodiesAreAtNodes seen.script.nodes z.running.bodies)
      (sym keeps.between)
      (runs_have_bodies_at_nodes seen.script seen.halts (lines_taken seen) keeps.is_script);
}
