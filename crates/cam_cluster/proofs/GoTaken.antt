-- `go`, taken.
use Rattle.std.proofs.Common.{◌≡◌, ℕ, ◌+◌, List, [], ◌∷◌, ◌++◌, Option, Some, None}
use Rattle.std.proofs.Common.{Result, Ok, Err, refl, sym, subst}
use Rattle.cam_bytes.specs.declared.WireFault.{WireFault}
use Rattle.cam_names.specs.declared.name.Name.{Name}
use Rattle.cam_event.specs.Inputs.{Begins, Requests}
use Rattle.cam_event.specs.Readings.{by_knowledge}
use Rattle.cam_body.specs.declared.Next.{Next}
use Rattle.cam_body.specs.declared.Next.TheVariants as nexts
use Rattle.cam_node.specs.Log.{Logged}
use Rattle.cam_runs.specs.Halts.{Halt, accepted, given}
use Rattle.cam_runs.specs.HaltedLines.{act, after_line}
use Rattle.cam_runs.specs.Standing.{Setting, Standing}
use Rattle.cam_script.specs.declared.Act.TheVariants as acts
use Rattle.cam_script.specs.declared.Statement.{Statement}
use Rattle.cam_script.specs.declared.Step.{Step}
use Rattle.cam_cluster.specs.declared.course.CourseFault.{CourseFault}
use Rattle.cam_cluster.specs.declared.course.CourseFault.TheVariants as faults
use Rattle.cam_cluster.specs.declared.LineFault.{LineFault}
use Rattle.cam_cluster.specs.declared.LineFault.TheVariants as line_faults
use Rattle.cam_cluster.specs.declared.workers.Workers.{Workers}
use Rattle.cam_cluster.specs.declared.works.Put.{Put}
use Rattle.cam_cluster.specs.Between.{after_step, halts_from}
use Rattle.cam_cluster.specs.Courses.{HasLedAtWork, IsAtWorkLine, IsEndedAtWork, IsNextOfCourse}
use Rattle.cam_cluster.specs.Courses.{KeepsCourse}
use Rattle.cam_cluster.specs.Goes.{IsSaidOf, next_of}
use Rattle.cam_cluster.specs.GoLines.{HasGoneOn, IsGoOfSome, IsLineOfGo, KeepsLinesAtWork}
use Rattle.cam_cluster.specs.Seen.{IsNextStep, Seen, later_steps, setting_in}
use Rattle.cam_cluster.specs.SoFar.{IsLed, LinesFields}
use Rattle.cam_cluster.specs.Workers.{AreWorkers}
use Rattle.cam_cluster.proofs.Counted.{go_counts}
use Rattle.cam_cluster.proofs.CourseTaken.{variables_placed}
use Rattle.cam_cluster.proofs.NextLine.{done_goes, done_halts, ends_are_said, held_is, led_goes}
use Rattle.cam_cluster.proofs.NextLine.{led_halts, refused_goes, wanting_goes}
use Rattle.cam_cluster.proofs.WorkersOn.{refused_is}

-- It tells of no letter.
abbrev pub none_told : Result (Option Put) LineFault → Result (Option WireFault) CourseFault
none_told (Ok made) = Ok None
none_told (Err fault) = Err (faults.Line fault)

module _ (line v : ℕ) (bodies : List (List Statement)) (old new : LinesFields)
    (might may : ℕ → Logged → Type 0) (before behind : Workers) where
  abbrev step : Step
  step = record { line = line; act = acts.Go v }

  pub go_of_course : IsNextOfCourse step bodies old might before
      → IsGoOfSome line v bodies old might before
  go_of_course some = record {
    script = some.seen.script;
    standing = some.seen.standing;
    is_script = some.keeps.between.is_script;
    bodies_are = some.bodies_are;
    keeps = record { lines = some.keeps.between.keeps; workers = some.keeps.workers };
    next = some.next;
    placed = variables_placed some.seen old might some.keeps.between;
  }

  module _ (seen : Seen) (keeps : KeepsCourse seen old might before) (next : IsNextStep seen step)
      (same : bodies ≡ seen.script.bodies) where
    -- what is known with these halts of the line
    abbrev c : List Halt → Setting
    c more = setting_in by_knowledge seen (more ++ seen.halts) step

    abbrev held : List Halt → Standing
    held more =
        after_line seen.standing line (act (c more) seen.script.bodies seen.standing (acts.Go v))

    workers_held : (more : List Halt) → AreWorkers (held more) behind
        → AreWorkers (after_step seen step more).standing behind
    workers_held more =
        subst (λ (st : Standing). AreWorkers st behind)
        (held_is seen step old new might may keeps.between next more)

    -- What is said of the request, if there is one,
    said_so : (n : Next) (a : Name) (done : Put)
        → IsSaidOf (c (halts_from (accepted seen.standing.turns) (done ∷ []))) seen.standing a n
        (Some done)
    said_so (nexts.Request want) a done =
        ends_are_said seen old might step (Requests (record { action = a; want = want })) done
        keeps.between
    said_so nexts.Wait a done = tt
    said_so nexts.Over a done = tt

    none_said : (n : Next) (a : Name) → IsSaidOf (c []) seen.standing a n None
    none_said (nexts.Request want) a = tt
    none_said nexts.Wait a = tt
    none_said nexts.Over a = tt

    -- where it was put
    request_led : (done : Put)
        → HasGoneOn seen.script seen.standing
        (c (halts_from (accepted seen.standing.turns) (done ∷ []))) v (Some done) new may behind
        → HasLedAtWork old seen step new may behind None
    request_led done gone = record {
      from = seen;
      is_from = refl;
      led = led_goes seen step old new might may keeps.between next (Begins 1) done led counts;
      workers =
          subst (λ (m : List Halt). AreWorkers (after_step seen step m).standing behind)
          (sym (led_halts seen step old new might may keeps.between next (Begins 1) done led
          counts)) (workers_held more gone_so.workers);
      fault = refl;
    }
      where
        more : List Halt
        more = halts_from (accepted seen.standing.turns) (done ∷ [])

        gone_so : KeepsLinesAtWork seen.script (held more) new may behind
        gone_so =
            gone.stands
            (said_so (next_of seen.script.bodies seen.standing gone.name) gone.name done)

        -- whichever input it was
        led : IsLed seen.script seen.standing (c more) (acts.Go v) (Begins 1) done new may
        led = record { passed = gone.passed; stands = λ halt. gone_so.lines }

        counts : accepted (held more).turns ≡ accepted seen.standing.turns + 1
        counts = go_counts (c more) seen.standing line _ _ _ gone.at gone.passed (sym gone.made)

    -- and where the action makes none.
    none_led : HasGoneOn seen.script seen.standing (c []) v None new may behind
        → HasLedAtWork old seen step new may behind None
    none_led gone =
        let gone_so =
        gone.stands (none_said (next_of seen.script.bodies seen.standing gone.name) gone.name) in
        record {
          from = seen;
          is_from = refl;
          led =
              done_goes seen step old new might may keeps.between next gone.passed gone_so.lines;
          workers =
              subst (λ (m : List Halt). AreWorkers (after_step seen step m).standing behind)
              (sym
              (done_halts seen step old new might may keeps.between next gone.passed gone_so.lines))
              (workers_held [] gone_so.workers);
          fault = refl;
        }

    at_work : (result : Result (Option Put) LineFault)
        → IsLineOfGo line v bodies old might before new may behind result
        → IsEndedAtWork old seen step new may behind (none_told result)
    at_work (Ok (Some done)) is =
        request_led done
        (is seen.script seen.standing
        (given (halts_from (accepted seen.standing.turns) (done ∷ []) ++ seen.halts))
        (later_steps seen) keeps.between.is_script same
        (record { lines = keeps.between.keeps; workers = keeps.workers }) next)
    at_work (Ok None) is =
        none_led
        (is seen.script seen.standing (given seen.halts) (later_steps seen) keeps.between.is_script
        same (record { lines = keeps.between.keeps; workers = keeps.workers }) next)
    at_work (Err (line_faults.Refused refusal)) is =
        let so =
        is seen.script seen.standing (given seen.halts) (later_steps seen) keeps.between.is_script
        same (record { lines = keeps.between.keeps; workers = keeps.workers }) next in
        let refused =
        refused_goes seen step old new might may keeps.between next refusal so.refused in
        record {
          test = refused.test;
          stands = record {
            between = refused.stands;
            workers =
                subst (λ (st : Standing). AreWorkers st behind)
                (sym (refused_is seen step refusal refused.test)) so.workers;
          };
        }
    at_work (Err line_faults.NoMemory) is =
        let so =
        is seen.script seen.standing (given seen.halts) (later_steps seen) keeps.between.is_script
        same (record { lines = keeps.between.keeps; workers = keeps.workers }) next in
        record {
          between = wanting_goes seen step old new might may keeps.between next so.lines;
          workers = so.workers;
        }

  pub go_at_work : (result : Result (Option Put) LineFault)
      → IsLineOfGo line v bodies old might before new may behind result
      → IsAtWorkLine step bodies old might before new may behind (none_told result)
  go_at_work result is seen keeps next same = at_work seen keeps next same result is
