-- The next line of a course that the lines take by themselves, and that gives no action a body.
use Rattle.std.proofs.Common.{◌≡◌, ℕ, List, Option, Result, Ok, Err, sym, subst, refl}
use Rattle.cam_bytes.specs.declared.WireFault.{WireFault}
use Rattle.cam_node.specs.Log.{Logged}
use Rattle.cam_runs.specs.Standing.{Standing}
use Rattle.cam_script.specs.declared.Act.{Act}
use Rattle.cam_script.specs.declared.Act.TheVariants as acts
use Rattle.cam_script.specs.declared.Statement.{Statement}
use Rattle.cam_script.specs.declared.Step.{Step}
use Rattle.cam_cluster.specs.declared.course.CourseFault.{CourseFault}
use Rattle.cam_cluster.specs.declared.course.CourseFault.TheVariants as faults
use Rattle.cam_cluster.specs.declared.LineFault.{LineFault}
use Rattle.cam_cluster.specs.declared.LineFault.TheVariants as line_faults
use Rattle.cam_cluster.specs.declared.workers.Workers.{Workers}
use Rattle.cam_cluster.specs.Between.{KeepsBetween}
use Rattle.cam_cluster.specs.Courses.{IsAtWorkLine, IsCourseWanting, IsNextOfCourse}
use Rattle.cam_cluster.specs.Seen.{Seen, lines_taken}
use Rattle.cam_cluster.specs.SoFar.{LinesFields}
use Rattle.cam_cluster.specs.Taking.{IsStepTaken, IsTakenAlone, IsWanting}
use Rattle.cam_cluster.specs.VariableLines.{AreAtNodes, IsNextOfSome}
use Rattle.cam_cluster.specs.Workers.{AreWorkers}
use Rattle.cam_cluster.proofs.AtNodes.{runs_are_at_nodes}
use Rattle.cam_cluster.proofs.BodiesStay.{GivesNone}
use Rattle.cam_cluster.proofs.CourseFrom.{from_itself}
use Rattle.cam_cluster.proofs.WorkersOn.{refused_on, workers_on}

-- The other lines need the actions at bodies, or are a restart or a stop.
pub taken_alone : (a : Act) → ((s body : ℕ) → a ≡ acts.Start s body → ⊥)
    → ((v : ℕ) → a ≡ acts.Go v → ⊥) → (a ≡ acts.Play → ⊥)
    → ((s : ℕ) → a ≡ acts.Restart s → ⊥) → ((s calls : ℕ) → a ≡ acts.Stop s calls → ⊥)
    → IsTakenAlone a × GivesNone a
taken_alone (acts.Start s body) no_start no_go no_play no_restart no_stop =
    absurd (no_start s body refl)
taken_alone (acts.Go v) no_start no_go no_play no_restart no_stop = absurd (no_go v refl)
taken_alone acts.Play no_start no_go no_play no_restart no_stop = absurd (no_play refl)
taken_alone (acts.Restart s) no_start no_go no_play no_restart no_stop =
    absurd (no_restart s refl)
taken_alone (acts.Stop s calls) no_start no_go no_play no_restart no_stop =
    absurd (no_stop s calls refl)
taken_alone _ no_start no_go no_play no_restart no_stop = (tt, tt)

-- The variables of a run that is kept stand for actions at nodes of the script.
pub variables_placed : (seen : Seen) (lines : LinesFields) (may : ℕ → Logged → Type 0)
    → KeepsBetween seen lines may → AreAtNodes seen.script.nodes seen.standing.running.bound
variables_placed seen lines may keeps =
    subst (λ (st : Standing). AreAtNodes seen.script.nodes st.running.bound) (sym keeps.between)
    (runs_are_at_nodes seen.script seen.halts (lines_taken seen) keeps.is_script)

pub next_of_course : (step : Step) (bodies : List (List Statement)) (lines : LinesFields)
    (may : ℕ → Logged → Type 0) (at_work : Workers) → IsNextOfCourse step bodies lines may at_work
    → IsNextOfSome step.line step.act lines may
next_of_course step bodies lines may at_work some = record {
  script = some.seen.script;
  standing = some.seen.standing;
  is_script = some.keeps.between.is_script;
  keeps = some.keeps.between.keeps;
  next = some.next;
  placed = variables_placed some.seen lines may some.keeps.between;
}

-- Memory ran out, and the actions at bodies stay.
wanting_at_work : (a : Act) (seen : Seen) (step : Step) (new : LinesFields)
    (may : ℕ → Logged → Type 0) (at_work : Workers) → IsTakenAlone a → IsWanting a seen step new may
    → AreWorkers seen.standing at_work → IsCourseWanting a seen step new may at_work
wanting_at_work acts.Drain seen step new may at_work alone wants are = wants
wanting_at_work acts.Play seen step new may at_work alone wants are = elim alone [ ]
wanting_at_work _ seen step new may at_work alone wants are =
    record { between = wants; workers = are }

-- A line that is refused, or finds no memory, by lines that are taken alone or of `start`.
pub fault_at_work : (step : Step) (bodies : List (List Statement)) (old new : LinesFields)
    (might may : ℕ → Logged → Type 0) (first before : Workers) (fault : LineFault)
    → IsTakenAlone step.act → ((st : Standing) → AreWorkers st first → AreWorkers st before)
    → IsStepTaken step old might new may (Err fault)
    → IsAtWorkLine step bodies old might first new may before (Err (faults.Line fault))
fault_at_work step bodies old new might may first before (line_faults.Refused refusal) alone stay
    taken
    seen keeps next same =
    let so = taken seen keeps.between next in record {
      test = so.test;
      stands = record {
        between = so.stands;
        workers =
            refused_on seen step refusal so.test before (stay seen.standing keeps.workers);
      };
    }
fault_at_work step bodies old new might may first before line_faults.NoMemory alone stay taken seen
    keeps
    next same =
    wanting_at_work step.act seen step new may before alone (taken seen keeps.between next)
    (stay seen.standing keeps.workers)

-- how a line ends that is taken alone
abbrev pub line_told : Result (Option WireFault) LineFault
    → Result (Option WireFault) CourseFault
line_told (Ok bad) = Ok bad
line_told (Err fault) = Err (faults.Line fault)

pub taken_at_work : (step : Step) (bodies : List (List Statement)) (old new : LinesFields)
    (might may : ℕ → Logged → Type 0) (at_work : Workers)
    (result : Result (Option WireFault) LineFault) → IsTakenAlone step.act → GivesNone step.act
    → IsStepTaken step old might new may result
    → IsAtWorkLine step bodies old might at_work new may at_work (line_told result)
taken_at_work step bodies old new might may at_work (Ok bad) alone none taken seen keeps next
    same =
    let so = taken seen keeps.between next in record {
      from = seen;
      is_from =
          from_itself old.works step.act seen (λ s is. subst IsTakenAlone is alone);
      led = so.0;
      workers = workers_on seen step so.0.more at_work none keeps.workers;
      fault = so.1;
    }
taken_at_work step bodies old new might may at_work (Err fault) alone none taken seen keeps next
    same =
    fault_at_work step bodies old new might may at_work at_work fault alone (λ st are. are) taken
    seen keeps next same
