-- The course of a script: the lines so far, with the actions that work at its bodies. What a
-- cluster keeps of both between lines, and what the next line makes of it, by the pasts of events.
use Rattle.std.specs.Prelude.{◌≡◌, ◌⊎◌, ℕ, true, List, [], Option, Some}
use Rattle.std.specs.Prelude.{Result, Ok, Err}
use Rattle.cam_bytes.specs.declared.WireFault.{WireFault}
use Rattle.cam_event.specs.declared.LineRefusal.{LineRefusal}
use Rattle.cam_event.specs.Readings.{by_knowledge, by_pasts}
use Rattle.cam_node.specs.Log.{Logged}
use Rattle.cam_runs.specs.Running.{has_number}
use Rattle.cam_runs.specs.Stops.{last_stop}
use Rattle.cam_script.specs.declared.Act.{Act}
use Rattle.cam_script.specs.declared.Act.TheVariants as acts
use Rattle.cam_script.specs.declared.Statement.{Statement}
use Rattle.cam_script.specs.declared.Step.{Step}
use Rattle.cam_histories.specs.Lines.{line_refusal}
use Rattle.cam_cluster.specs.declared.course.CourseFault.{CourseFault}
use Rattle.cam_cluster.specs.declared.course.CourseFault.TheVariants as faults
use Rattle.cam_cluster.specs.declared.LineFault.TheVariants as line_faults
use Rattle.cam_cluster.specs.declared.works.failing.Ending.TheVariants as endings
use Rattle.cam_cluster.specs.declared.workers.Workers.{Workers}
use Rattle.cam_cluster.specs.Between.{HasLedOn, KeepsBetween, after_step, seen_found}
use Rattle.cam_cluster.specs.LetterLines.{cut_fault}
use Rattle.cam_cluster.specs.Plays.{HasPlayedSoFar}
use Rattle.cam_cluster.specs.Seen.{IsNextStep, Seen}
use Rattle.cam_cluster.specs.SoFar.{LinesFields}
use Rattle.cam_cluster.specs.Taking.{HasDrainedPart}
use Rattle.cam_cluster.specs.Workers.{AreWorkers}
use Rattle.cam_cluster.specs.Works.{IsUnfailing, WorksFields}

-- The lines so far are those of the run that was seen, and the workers are its actions at bodies.
pub record KeepsCourse (seen : Seen) (lines : LinesFields) (may_read : ℕ → Logged → Type 0)
    (at_work : Workers) : Type 0 where
  pub between : KeepsBetween seen lines may_read
  pub workers : AreWorkers seen.standing at_work

-- The step is the next one of some run that is kept, of a script with these bodies.
pub record IsNextOfCourse (step : Step) (bodies : List (List Statement)) (lines : LinesFields)
    (may_read : ℕ → Logged → Type 0) (at_work : Workers) : Type 0 where
  pub seen : Seen
  pub keeps : KeepsCourse seen lines may_read at_work
  pub next : IsNextStep seen step
  pub bodies_are : bodies ≡ seen.script.bodies

-- a line that gives an action this body
abbrev pub IsStartOf : ℕ → Act → Type 0
IsStartOf body act = (s : ℕ) × (act ≡ acts.Start s body)

-- A restart stood: what was seen stands. Where its disk has not failed by itself, no stop let the
-- last append of the node be taken.
pub record HasStood (old : WorksFields) (seen from : Seen) (s : ℕ) : Type 0 where
  pub same : from ≡ seen
  pub lost :
      IsUnfailing old.failed old.nodes s → has_number seen.standing.halted s ≡ true
      → last_stop seen.standing.turns s ≡ Some true → ⊥

-- A restart found the event at which its node had halted: what was seen is the run in which that
-- halt was taken. Where its disk has not failed by itself, a stop let it be taken.
pub record HasFound (old : WorksFields) (seen from : Seen) (s : ℕ) : Type 0 where
  pub halted : has_number seen.standing.halted s ≡ true
  pub found : from ≡ seen_found seen s
  pub taken : IsUnfailing old.failed old.nodes s → last_stop seen.standing.turns s ≡ Some true

-- what a line goes on from, by what the works kept before it
abbrev pub IsFrom : WorksFields → Act → Seen → Seen → Type 0
IsFrom old (acts.Restart s) seen from = HasStood old seen from s ⊎ HasFound old seen from s
IsFrom old _ seen from = from ≡ seen

-- It was refused, by the first test that fails.
pub record HasRefusedLine (seen : Seen) (step : Step) (new : LinesFields)
    (may_read : ℕ → Logged → Type 0) (at_work : Workers) (refusal : LineRefusal) : Type 0 where
  pub test :
      line_refusal (by_pasts seen.script.objects) seen.standing step.act ≡ Some refusal
  pub stands : KeepsCourse (after_step seen step []) new may_read at_work

-- Memory ran out: what was kept is kept, but that some inputs of a drain or a play may stand.
abbrev pub IsCourseWanting : Act → Seen → Step → LinesFields → (ℕ → Logged → Type 0) → Workers
    → Type 0
IsCourseWanting acts.Drain seen step new may_read at_work = HasDrainedPart seen step new may_read
IsCourseWanting acts.Play seen step new may_read at_work =
    HasPlayedSoFar seen step new may_read at_work
IsCourseWanting _ seen step new may_read at_work = KeepsCourse seen new may_read at_work

-- The lines led on, with these halts, and the workers are those after the line. The fault of a
-- letter that it cut short is told.
pub record HasLedAtWork (old : LinesFields) (seen : Seen) (step : Step) (new : LinesFields)
    (may_read : ℕ → Logged → Type 0) (at_work : Workers) (bad : Option WireFault) : Type 0 where
  pub from : Seen
  pub is_from : IsFrom old.works step.act seen from
  pub led : HasLedOn from step new may_read
  pub workers : AreWorkers (after_step from step led.more).standing at_work
  pub fault : bad ≡ cut_fault (by_knowledge seen.script.objects) seen.standing step.act

-- How the line ends. Where a restart fails something is known to have failed by itself, and nothing
-- is said of what is kept: the run ends there.
abbrev pub IsEndedAtWork : LinesFields → Seen → Step → LinesFields → (ℕ → Logged → Type 0) → Workers
    → Result (Option WireFault) CourseFault → Type 0
IsEndedAtWork old seen step new may_read at_work (Ok bad) =
    HasLedAtWork old seen step new may_read at_work bad
IsEndedAtWork old seen step new may_read at_work (Err (faults.Line (line_faults.Refused refusal))) =
    HasRefusedLine seen step new may_read at_work refusal
IsEndedAtWork old seen step new may_read at_work (Err (faults.Line line_faults.NoMemory)) =
    IsCourseWanting step.act seen step new may_read at_work
IsEndedAtWork old seen step new may_read at_work (Err faults.RestartFailed) =
    new.works.failed.ends ≡ endings.Nothing → ⊥

-- THE CLAUSE of the next line: of each run that is kept, with these bodies, whose next step it is
abbrev pub IsAtWorkLine : Step → List (List Statement) → LinesFields → (ℕ → Logged → Type 0)
    → Workers → LinesFields → (ℕ → Logged → Type 0) → Workers
    → Result (Option WireFault) CourseFault → Type 0
IsAtWorkLine step bodies old might_read old_workers new may_read at_work result =
    (seen : Seen) → KeepsCourse seen old might_read old_workers → IsNextStep seen step
    → bodies ≡ seen.script.bodies
    → IsEndedAtWork old seen step new may_read at_work result
