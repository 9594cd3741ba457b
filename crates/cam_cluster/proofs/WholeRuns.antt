-- The lines of a script, one after another.
use Rattle.std.proofs.Common.{◌≡◌, ◌<◌, ◌≤◌, ℕ, Bool, true, false, List, get_or, length, Some, refl}
use Rattle.std.proofs.Common.{sym, ap, ◌∙◌, subst, arith}
use Rattle.std.specs.Prelude.{reverse, slice_get}
use Rattle.std.proofs.lemmas.Option.{slice_get-get_or}
use Rattle.cam_event.specs.declared.Event.{Event}
use Rattle.cam_event.specs.declared.Mark.{Mark}
use Rattle.cam_event.specs.Readings.{by_pasts}
use Rattle.cam_node.specs.Log.{Logged}
use Rattle.cam_runs.specs.Halts.{given}
use Rattle.cam_runs.specs.HaltedLines.{run_with}
use Rattle.cam_runs.specs.Standing.{Standing, start}
use Rattle.cam_script.specs.declared.Script.{Script}
use Rattle.cam_script.specs.declared.Step.{Step}
use Rattle.cam_cluster.specs.declared.workers.Workers.{Workers}
use Rattle.cam_cluster.specs.Between.{KeepsBetween}
use Rattle.cam_cluster.specs.Clusters.{IsNextLine, StandsAs, Tells}
use Rattle.cam_cluster.specs.Courses.{IsNextOfCourse}
use Rattle.cam_cluster.specs.Disks.{KeepsLogs}
use Rattle.cam_cluster.specs.Failing.{FailedIn}
use Rattle.cam_cluster.specs.Founding.{before_first}
use Rattle.cam_cluster.specs.HaltedLogs.{KeepsHaltedLogs}
use Rattle.cam_cluster.specs.KnownHalts.{AgreesAt, AreKnown}
use Rattle.cam_cluster.specs.Seen.{IsNextStep, Seen, lines_taken}
use Rattle.cam_cluster.specs.SoFar.{LinesFields}
use Rattle.cam_cluster.specs.WholeRuns.{HasTakenLines, IsNextOfRun, IsRunWithLogs}
use Rattle.cam_cluster.specs.Workers.{AreWorkers}
use Rattle.cam_cluster.specs.Works.{MayGoOn, has_failed}
use Rattle.cam_cluster.proofs.AllLines.{all_lines_are_the_run}
use Rattle.cam_cluster.proofs.HaltedLogs.{halted_logs, one_kept}
use Rattle.cam_cluster.proofs.NodeAgrees.{known_at_end_of}

module _ (script : Script) (many : ℕ) (step : Step) (lines : LinesFields)
    (may_read : ℕ → Logged → Type 0) (at_work : Workers)
    (taken : HasTakenLines script many lines may_read at_work)
    (at : slice_get script.steps many ≡ Some step) where
  pub next_step : IsNextStep taken.seen step
  next_step = (λ i. slice_get ((taken.of_script i).steps) (taken.taken i)) ∙ at

-- what was seen of these lines stands
pub as_stands : {script : Script} {many : ℕ} {lines : LinesFields} {may : ℕ → Logged → Type 0}
    {at_work : Workers} → (taken : HasTakenLines script many lines may at_work)
    → StandsAs taken.seen lines may at_work
as_stands taken = record {
  keeps = taken.keeps;
  goes_on = taken.goes_on;
  agrees = taken.agrees;
}

abbrev pub of_stands : (seen : Seen) (lines : LinesFields) (may : ℕ → Logged → Type 0) (at_work : Workers)
    → StandsAs seen lines may at_work
    → HasTakenLines seen.script (lines_taken seen) lines may at_work
of_stands seen lines may at_work stands = record {
  seen = seen;
  keeps = stands.keeps;
  of_script = refl;
  taken = refl;
  goes_on = stands.goes_on;
  agrees = stands.agrees;
}

pub next_line : (script : Script) (step : Step) (lines : LinesFields)
    (may_read : ℕ → Logged → Type 0) (at_work : Workers)
    → IsNextOfRun script step lines may_read at_work
    → IsNextLine script step (λ seen. StandsAs seen lines may_read at_work)
next_line script step lines may_read at_work next = record {
  seen = next.taken.seen;
  stands = as_stands next.taken;
  next = next_step script next.many step lines may_read at_work next.taken next.at;
  of_script = next.taken.of_script;
}

pub next_of_course : (script : Script) (step : Step) (lines : LinesFields)
    (may_read : ℕ → Logged → Type 0) (at_work : Workers)
    → IsNextLine script step (λ seen. StandsAs seen lines may_read at_work)
    → IsNextOfCourse step script.bodies lines may_read at_work
next_of_course script step lines may_read at_work next = record {
  seen = next.seen;
  keeps = next.stands.keeps;
  next = next.next;
  bodies_are = ap (λ (s : Script). s.bodies) (sym next.of_script);
}

-- before the first line
pub none_taken : (script : Script) (lines : LinesFields) (may_read : ℕ → Logged → Type 0)
    (at_work : Workers) → KeepsBetween (before_first script) lines may_read
    → AreWorkers start at_work → MayGoOn lines.works.failed lines.works.nodes
    → StandsAs (before_first script) lines may_read at_work
none_taken script lines may_read at_work keeps workers goes = record {
  keeps = record { between = keeps; workers = workers };
  goes_on = goes;
  agrees = λ s none. tt;
}

-- What the lines so far came to.
pub tells_of : (seen : Seen) (lines : LinesFields) (may_read : ℕ → Logged → Type 0)
    (at_work : Workers) → StandsAs seen lines may_read at_work → KeepsLogs seen may_read
    → Tells seen lines.works may_read
tells_of seen lines may_read at_work stands logs = record {
  between = stands.keeps.between.between;
  events = stands.keeps.between.keeps.runs.events;
  marks = stands.keeps.between.keeps.runs.all_marks;
  asleep = stands.keeps.between.keeps.runs.whole.network.stands.nodes;
  known = stands.agrees;
  logs = logs;
  halted = λ s low high on. one_kept seen lines may_read stands.keeps.between s low high on;
  stopped = λ place node at none.
      stands.keeps.between.keeps.runs.stops.each place node at (none, stands.goes_on);
}

-- after the last
pub all_taken : (script : Script) (lines : LinesFields) (may_read : ℕ → Logged → Type 0)
    (at_work : Workers) (trace : List Event) (marks : List Mark)
    → (taken : HasTakenLines script (length script.steps) lines may_read at_work)
    → trace ≡ lines.works.events → marks ≡ lines.works.marks → KeepsLogs taken.seen may_read
    → IsRunWithLogs script (FailedIn lines.works.failed) may_read
    (record { trace = trace; marks = marks })
all_taken script lines may_read at_work trace marks taken events all_marks logs = record {
  recorded = record {
    halts = taken.seen.halts;
    is_run = record {
      trace =
          events ∙ taken.keeps.between.keeps.runs.events
          ∙ ap (λ (st : Standing). reverse st.running.trace) stands;
      marks =
          all_marks ∙ taken.keeps.between.keeps.runs.all_marks
          ∙ ap (λ (st : Standing). st.running.marks) stands;
    };
    known = known;
  };
  logs =
      subst (λ (x : Seen). KeepsLogs x may_read)
      (λ i. record { script = taken.of_script i; standing = stands i; halts = taken.seen.halts })
      logs;
  halted =
      subst (λ (x : Script). KeepsHaltedLogs x taken.seen.halts may_read) taken.of_script
      (halted_logs taken.seen lines may_read taken.keeps.between
      (taken.taken ∙ ap (λ (x : Script). length x.steps) (sym taken.of_script))
      (stands ∙ ap (λ (x : Script). run_with by_pasts x taken.seen.halts) (sym taken.of_script)));
}
  where
    stands : taken.seen.standing ≡ run_with by_pasts script taken.seen.halts
    stands =
        (all_lines_are_the_run script taken.seen taken.of_script taken.taken
        taken.keeps.between.between).standing

    agrees : (s : ℕ) → has_failed lines.works.failed s ≡ false
        → AgreesAt s (given taken.seen.halts) (run_with by_pasts script taken.seen.halts)
    agrees s none = subst (AgreesAt s (given taken.seen.halts)) stands (taken.agrees s none)

    sound : (s : ℕ) → 1 ≤ s → (FailedIn lines.works.failed s → ⊥)
        → has_failed lines.works.failed s ≡ false
    sound s low never = by (has_failed lines.works.failed s) refl
      where
        by : (b : Bool) → has_failed lines.works.failed s ≡ b
            → has_failed lines.works.failed s ≡ false
        by true is = absurd (never (low, is))
        by false is = is

    known : AreKnown script (given taken.seen.halts) (FailedIn lines.works.failed)
    known =
        known_at_end_of script taken.seen.halts (FailedIn lines.works.failed)
        (λ s low never. agrees s (sound s low never))
        (λ none. agrees 0 (sound 1 (omega arith) (none 1)))

-- the step at a place of a loop over them
pub step_at : (script : Script) (steps : List Step) (at : ℕ) (other : Step)
    → at < length steps → steps ≡ script.steps
    → slice_get script.steps at ≡ Some (get_or steps at other)
step_at script steps at other within all =
    ap (λ (ss : List Step). slice_get ss at) (sym all) ∙ slice_get-get_or steps at other within
