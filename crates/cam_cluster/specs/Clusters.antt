-- A cluster, as its callers see it: which lines of its script it has taken, what it tells of their
-- run, what the logs of its nodes keep of it, and what one line more makes of it.
use Rattle.std.specs.Prelude.{◌≡◌, ◌⊎◌, ◌<◌, ◌≤◌, ℕ, ◌+◌, true, false, List, [], Option, Some, None}
use Rattle.std.specs.Prelude.{Result, Ok, Err, reverse, slice_get, Bool}
use Rattle.cam_bytes.specs.declared.WireFault.{WireFault}
use Rattle.cam_event.specs.declared.LineRefusal.{LineRefusal}
use Rattle.cam_event.specs.Readings.{by_knowledge, by_pasts}
use Rattle.cam_histories.specs.Lines.{line_refusal}
use Rattle.cam_net.specs.Waiting.{is_halted}
use Rattle.cam_node.specs.Log.{Logged}
use Rattle.cam_runs.specs.Halts.{given}
use Rattle.cam_runs.specs.Running.{has_number}
use Rattle.cam_script.specs.declared.Script.{Script}
use Rattle.cam_script.specs.declared.Step.{Step}
use Rattle.cam_cluster.specs.declared.cluster.LineDone.{LineDone}
use Rattle.cam_cluster.specs.declared.course.CourseFault.{CourseFault}
use Rattle.cam_cluster.specs.declared.course.CourseFault.TheVariants as course_faults
use Rattle.cam_cluster.specs.declared.LineFault.TheVariants as line_faults
use Rattle.cam_cluster.specs.declared.fault.RunFault.TheVariants as run_faults
use Rattle.cam_cluster.specs.declared.fault.ClusterFault.{ClusterFault}
use Rattle.cam_cluster.specs.declared.fault.ClusterFault.TheVariants as faults
use Rattle.cam_cluster.specs.declared.workers.Workers.{Workers}
use Rattle.cam_cluster.specs.Between.{after_step, seen_found}
use Rattle.cam_cluster.specs.Courses.{KeepsCourse}
use Rattle.cam_cluster.specs.Disks.{KeepsHistoryOf, KeepsLogs}
use Rattle.cam_cluster.specs.Failing.{IsOfKnown}
use Rattle.cam_cluster.specs.FoundHalts.{IsPutIn}
use Rattle.cam_cluster.specs.KnownHalts.{AgreesAt}
use Rattle.cam_cluster.specs.LetterLines.{cut_fault}
use Rattle.cam_cluster.specs.Seen.{IsBetweenLines, IsNextStep, Seen, lines_taken}
use Rattle.cam_cluster.specs.SoFar.{LinesFields}
use Rattle.cam_cluster.specs.Stopped.{IsStoppedAs}
use Rattle.cam_cluster.specs.Works.{MayGoOn, NodeFields, WorksFields, has_failed}
use Rattle.cam_cluster.specs.declared.works.failing.Failed.{Failed}

-- The course of a script is what was seen of it, and goes on. The halts of each node whose disk has
-- not failed by itself agree with the lines that stop it.
pub record StandsAs (seen : Seen) (lines : LinesFields) (may_read : ℕ → Logged → Type 0)
    (at_work : Workers) : Type 0 where
  pub keeps : KeepsCourse seen lines may_read at_work
  pub goes_on : MayGoOn lines.works.failed lines.works.nodes
  pub agrees :
      (s : ℕ) → has_failed lines.works.failed s ≡ false
      → AgreesAt s (given seen.halts) seen.standing

-- Whatever may be read of the log of a node that is halted keeps the node's history of the run, or of
-- the run in which the log took the event at which it halted.
pub record KeepsOneOf (seen : Seen) (s : ℕ) (may_read : Logged → Type 0) : Type 0 where
  pub number : ℕ
  pub put_in :
      IsPutIn seen.script.objects number s seen.standing (seen_found seen s).standing
  pub either :
      (logged : Logged) → may_read logged
      → KeepsHistoryOf seen.script s seen.standing logged
      ⊎ KeepsHistoryOf seen.script s (seen_found seen s).standing logged

-- THE CLAUSE of what a cluster tells between lines: events, marks and which nodes are halted are those
-- of the run of its lines so far, with the halts that are known. The log of each node that is not
-- halted keeps the node's history of that run, and the log of one that is halted one of its two. Of a
-- node whose disk has not failed by itself the halts are those of its stop lines, and by these it is
-- known how many calls its disk does more, and which of the two its log holds.
pub record Tells (seen : Seen) (works : WorksFields) (may_read : ℕ → Logged → Type 0) : Type 0
  where
    pub between : IsBetweenLines seen
    pub events : works.events ≡ reverse seen.standing.running.trace
    pub marks : works.marks ≡ seen.standing.running.marks
    pub asleep :
        (s : ℕ) → 1 ≤ s → s ≤ 8 → is_halted works.halted s ≡ has_number seen.standing.halted s
    pub known :
        (s : ℕ) → has_failed works.failed s ≡ false → AgreesAt s (given seen.halts) seen.standing
    pub logs : KeepsLogs seen may_read
    pub halted :
        (s : ℕ) → 1 ≤ s → s ≤ seen.script.nodes → has_number seen.standing.halted s ≡ true
        → KeepsOneOf seen s (may_read s)
    pub stopped :
        (place : ℕ) (node : NodeFields) → slice_get works.nodes place ≡ Some node
        → has_failed works.failed (place + 1) ≡ false
        → IsStoppedAs seen.script.objects seen.standing.running.trace seen.standing.halted
        seen.standing.turns (place + 1) node.site.node node.halted_at node.passes node.reads

-- The step is the next line of a script that is taken.
pub record IsNextLine (script : Script) (step : Step) (so : Seen → Type 0) : Type 0 where
  pub seen : Seen
  pub stands : so seen
  pub next : IsNextStep seen step
  pub of_script : seen.script ≡ script

-- The line led on: one line more is taken, and the fault is told of a letter that it cut short.
pub record HasLedLine (seen : Seen) (step : Step) (so : Seen → Type 0)
    (bad : Option WireFault) : Type 0 where
  pub after : Seen
  pub stands : so after
  pub of_script : after.script ≡ seen.script
  pub one_more : lines_taken after ≡ lines_taken seen + 1
  pub fault : bad ≡ cut_fault (by_knowledge seen.script.objects) seen.standing step.act

-- The line was refused, by the first test that fails; that is a line taken, too.
pub record IsRefusedLine (seen : Seen) (step : Step) (so : Seen → Type 0)
    (refusal : LineRefusal) : Type 0 where
  pub test :
      line_refusal (by_pasts seen.script.objects) seen.standing step.act ≡ Some refusal
  pub stands : so (after_step seen step [])
  pub one_more : lines_taken (after_step seen step []) ≡ lines_taken seen + 1

-- How a line ends. If the run has to end, nothing is said of what stands then.
abbrev pub IsLineOf : Seen → Step → (Seen → Type 0) → Result LineDone ClusterFault → Type 0
IsLineOf seen step so (Ok done) = HasLedLine seen step so done.bad
IsLineOf seen step so (Err (faults.Refused refusal)) = IsRefusedLine seen step so refusal
IsLineOf seen step so (Err (faults.Ended fault)) = Unit {0}

-- THE CLAUSE of the next line, whatever the cluster stands for
abbrev pub IsLine : Script → Step → (Seen → Type 0) → (Seen → Type 0)
    → Result LineDone ClusterFault → Type 0
IsLine script step stood so result =
    (seen : Seen) → stood seen → IsNextStep seen step → seen.script ≡ script
    → IsLineOf seen step so result

-- how a line ended, if the run need not end by what failed
abbrev pub ended_by : CourseFault → ClusterFault
ended_by (course_faults.Line (line_faults.Refused refusal)) = faults.Refused refusal
ended_by (course_faults.Line line_faults.NoMemory) = faults.Ended run_faults.NoMemory
ended_by course_faults.RestartFailed = faults.Ended run_faults.NoMemory

-- a fault by which the run has to end is that of what failed
abbrev pub IsEndedBy : Failed → ClusterFault → Type 0
IsEndedBy known (faults.Refused refusal) = Unit {0}
IsEndedBy known (faults.Ended fault) = IsOfKnown known fault

-- the first node that is halted now and was not before
abbrev pub IsNewlyHalted : List Bool → List Bool → ℕ → Type 0
IsNewlyHalted before after s = (is_halted after s ≡ true) × (is_halted before s ≡ false)

abbrev pub IsFirstHalted : List Bool → List Bool → Option ℕ → Type 0
IsFirstHalted before after None =
    (s : ℕ) → 1 ≤ s → s ≤ 8 → IsNewlyHalted before after s → ⊥
IsFirstHalted before after (Some s) =
    IsNewlyHalted before after s
    × ((k : ℕ) → 1 ≤ k → k < s → IsNewlyHalted before after k → ⊥)
