-- `stop`, taken.
use Rattle.std.proofs.Common.{ℕ, ◌≤◌, List, Option, None, Result, Ok, Err, length, refl, sym, subst}
use Rattle.std.proofs.lemmas.Bool.{and_parts}
use Rattle.cam_bytes.specs.declared.WireFault.{WireFault}
use Rattle.cam_node.specs.Log.{Logged}
use Rattle.cam_runs.specs.Halts.{given}
use Rattle.cam_script.specs.declared.Act.TheVariants as acts
use Rattle.cam_script.specs.declared.Statement.{Statement}
use Rattle.cam_script.specs.declared.Step.{Step}
use Rattle.cam_script.specs.Law.{is_node}
use Rattle.cam_cluster.specs.declared.course.CourseFault.{CourseFault}
use Rattle.cam_cluster.specs.declared.course.CourseFault.TheVariants as faults
use Rattle.cam_cluster.specs.declared.LineFault.{LineFault}
use Rattle.cam_cluster.specs.declared.LineFault.TheVariants as line_faults
use Rattle.cam_cluster.specs.declared.workers.Workers.{Workers}
use Rattle.cam_cluster.specs.Between.{HasLedOn}
use Rattle.cam_cluster.specs.Courses.{IsAtWorkLine}
use Rattle.cam_cluster.specs.LetterLines.{IsLineBy}
use Rattle.cam_cluster.specs.Seen.{later_steps}
use Rattle.cam_cluster.specs.SoFar.{LinesFields}
use Rattle.cam_cluster.specs.Stops.{IsStop}
use Rattle.cam_cluster.specs.VariableLines.{IsNextOfSome}
use Rattle.cam_cluster.proofs.NextLine.{done_goes, refused_goes, wanting_goes}
use Rattle.cam_cluster.proofs.StepHolds.{next_holds, node_within}
use Rattle.cam_cluster.proofs.WorkersOn.{refused_on, workers_on}

-- The node of the line is one of the nodes that are kept.
pub stops_within : (line s calls : ℕ) (lines : LinesFields) (may : ℕ → Logged → Type 0)
    → IsNextOfSome line (acts.Stop s calls) lines may
    → (1 ≤ s) × (s ≤ length lines.works.nodes)
stops_within line s calls lines may some =
    let holds =
    next_holds some.script some.standing line (acts.Stop s calls) some.is_script some.next in
    let within =
    node_within _ _ (and_parts (is_node some.script.nodes s) _ holds.1).0 in
    (within.0, rw some.keeps.runs.one_each within.1)

-- It tells of no letter.
abbrev pub stop_told : Result (Unit {0}) LineFault → Result (Option WireFault) CourseFault
stop_told (Ok done) = Ok None
stop_told (Err fault) = Err (faults.Line fault)

pub stop_at_work : (line s calls : ℕ) (bodies : List (List Statement)) (old new : LinesFields)
    (might may : ℕ → Logged → Type 0) (at_work : Workers) (result : Result (Unit {0}) LineFault)
    → IsLineBy line (acts.Stop s calls) (IsStop s calls) old might new may result
    → IsAtWorkLine (record { line = line; act = acts.Stop s calls }) bodies old might at_work new
    may at_work (stop_told result)
stop_at_work line s calls bodies old new might may at_work (Ok done) is seen keeps next same =
    let step : Step = record { line = line; act = acts.Stop s calls } in
    let between = keeps.between in
    let so =
    is seen.script seen.standing (given seen.halts) (later_steps seen) between.is_script
    between.keeps next in
    let led : HasLedOn seen step new may =
    done_goes seen step old new might may between next so.passed so.stands in record {
      from = seen;
      is_from = refl;
      led = led;
      workers = workers_on seen step led.more at_work tt keeps.workers;
      fault = refl;
    }
stop_at_work line s calls bodies old new might may at_work (Err (line_faults.Refused refusal)) is
    seen keeps next same =
    let step : Step = record { line = line; act = acts.Stop s calls } in
    let between = keeps.between in
    let so =
    refused_goes seen step old new might may between next refusal
    (is seen.script seen.standing (given seen.halts) (later_steps seen) between.is_script
    between.keeps next) in record {
      test = so.test;
      stands = record {
        between = so.stands;
        workers = refused_on seen step refusal so.test at_work keeps.workers;
      };
    }
stop_at_work line s calls bodies old new might may at_work (Err line_faults.NoMemory) is seen keeps
    next same =
    let step : Step = record { line = line; act = acts.Stop s calls } in
    let between = keeps.between in record {
      between =
          wanting_goes seen step old new might may between next
          (is seen.script seen.standing (given seen.halts) (later_steps seen) between.is_script
          between.keeps next);
      workers = keeps.workers;
    }
