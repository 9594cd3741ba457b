-- `play`, in a course.
use Rattle.std.proofs.Common.{ℕ, List, None, Ok, Err, refl}
use Rattle.cam_node.specs.Log.{Logged}
use Rattle.cam_runs.specs.Halts.{accepted}
use Rattle.cam_script.specs.declared.Statement.{Statement}
use Rattle.cam_cluster.specs.declared.LineFault.TheVariants as line_faults
use Rattle.cam_cluster.specs.declared.course.CourseFault.TheVariants as faults
use Rattle.cam_cluster.specs.declared.workers.Workers.{Workers}
use Rattle.cam_cluster.specs.Between.{halts_from}
use Rattle.cam_cluster.specs.Courses.{IsAtWorkLine}
use Rattle.cam_cluster.specs.Plays.{IsLineOfPlay, IsPartOfPlay, play_step}
use Rattle.cam_cluster.specs.SoFar.{LinesFields}
use Rattle.cam_cluster.proofs.PlayTaken.{play_part_taken, play_taken}

module _ (line : ℕ) (bodies : List (List Statement)) (old new : LinesFields)
    (might may : ℕ → Logged → Type 0) (before behind : Workers) where
  pub play_at_work : IsLineOfPlay line bodies old might before new may behind
      → IsAtWorkLine (play_step line) bodies old might before new may behind (Ok None)
  play_at_work has seen keeps next same =
      let taken =
      play_taken line bodies old new might may before behind has seen keeps.between keeps.workers
      next same in
      record {
        from = seen;
        is_from = refl;
        led = record {
          more = halts_from (accepted seen.standing.turns) has.ends;
          of_line = taken.of_line;
          passed = refl;
          stands = taken.stands;
        };
        workers = taken.workers;
        fault = refl;
      }

  -- Memory ran out in it.
  pub play_part_at_work : IsPartOfPlay line bodies old might before new may behind
      → IsAtWorkLine (play_step line) bodies old might before new may behind
      (Err (faults.Line line_faults.NoMemory))
  play_part_at_work has seen keeps next same =
      play_part_taken _ _ _ _ _ _ _ _ has _ keeps.between keeps.workers same
