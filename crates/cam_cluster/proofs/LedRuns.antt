-- A line more of a script's run: it led on, or was refused.
use Rattle.std.proofs.Common.{◌≡◌, ◌⊎◌, inl, inr, ℕ, ◌+◌, List, [], ◌++◌, Option, Some, Ok, Err}
use Rattle.std.proofs.Common.{refl, sym, ap, ◌∙◌, subst}
use Rattle.std.specs.Prelude.{slice_get}
use Rattle.cam_bytes.specs.declared.WireFault.{WireFault}
use Rattle.cam_event.specs.declared.LineRefusal.{LineRefusal}
use Rattle.cam_node.specs.Log.{Logged}
use Rattle.cam_runs.specs.Halts.{Halt, given}
use Rattle.cam_runs.proofs.Range.{script_in_range}
use Rattle.cam_script.specs.declared.Act.{Act}
use Rattle.cam_script.specs.declared.Script.{Script}
use Rattle.cam_script.specs.declared.Step.{Step}
use Rattle.cam_cluster.specs.declared.cluster.LineDone.{LineDone}
use Rattle.cam_cluster.specs.declared.course.CourseFault.{CourseFault}
use Rattle.cam_cluster.specs.declared.course.CourseFault.TheVariants as faults
use Rattle.cam_cluster.specs.declared.fault.ClusterFault.{ClusterFault}
use Rattle.cam_cluster.specs.declared.fault.ClusterFault.TheVariants as cluster_faults
use Rattle.cam_cluster.specs.declared.LineFault.TheVariants as line_faults
use Rattle.cam_cluster.specs.declared.workers.Workers.{Workers}
use Rattle.cam_cluster.specs.Between.{KeepsBetween, after_step}
use Rattle.cam_cluster.specs.Clusters.{HasLedLine, IsLine, IsLineOf, IsRefusedLine, StandsAs, ended_by}
use Rattle.cam_cluster.specs.Failing.{KnowsMore}
use Rattle.cam_cluster.specs.KnownHalts.{AgreesAt}
use Rattle.cam_cluster.specs.Courses.{HasLedAtWork, HasRefusedLine, IsAtWorkLine, IsFrom}
use Rattle.cam_cluster.specs.Seen.{IsNextStep, Seen, later_steps, lines_taken}
use Rattle.cam_cluster.specs.SoFar.{LinesFields}
use Rattle.cam_cluster.specs.WholeRuns.{HasTakenLines, HasTakenNext}
use Rattle.cam_cluster.specs.Works.{MayGoOn}
use Rattle.cam_cluster.proofs.CourseFrom.{IsFoundBy, from_is}
use Rattle.cam_cluster.proofs.FoundSeen.{bound_same, found_so_far}
use Rattle.cam_cluster.proofs.GoesOn.{IsRunSoFar, so_far}
use Rattle.cam_cluster.proofs.LineAgrees.{line_agrees}
use Rattle.cam_cluster.proofs.LinesUnder.{line_counts}
use Rattle.cam_cluster.proofs.RestartAgrees.{from_agrees}
use Rattle.cam_cluster.proofs.WholeRuns.{as_stands, next_step, of_stands}
use Rattle.cam_cluster.proofs.WorkersOn.{refused_is}

-- What a line goes on from has taken the lines that were seen.
record GoesFrom (seen from : Seen) : Type 0 where
  pub so_far : IsRunSoFar from
  pub of_script : from.script ≡ seen.script
  pub lines : lines_taken from ≡ lines_taken seen

goes_from : (does : Act) (seen from : Seen) (lines : LinesFields) (may : ℕ → Logged → Type 0)
    → KeepsBetween seen lines may → IsFrom lines.works does seen from → GoesFrom seen from
goes_from does seen from lines may keeps is = by (from_is lines.works does seen from is)
  where
    by : (from ≡ seen) ⊎ IsFoundBy does seen from → GoesFrom seen from
    by (inl same) =
        subst (λ (x : Seen). GoesFrom seen x) (sym same)
        (record { so_far = so_far seen lines may keeps; of_script = refl; lines = refl })
    by (inr b) =
        subst (λ (x : Seen). GoesFrom seen x) (sym b.found)
        (record {
          so_far = found_so_far seen lines may keeps b.node b.halted;
          of_script = refl;
          lines = bound_same seen lines may keeps b.node b.halted;
        })

module _ (script : Script) (many : ℕ) (step : Step) (old new : LinesFields)
    (might may : ℕ → Logged → Type 0) (before behind : Workers)
    (taken : HasTakenLines script many old might before)
    (at : slice_get script.steps many ≡ Some step)
    (may_go : MayGoOn new.works.failed new.works.nodes)
    (knows : KnowsMore old.works.failed new.works.failed) where
  abbrev seen : Seen
  seen = taken.seen

  abbrev next : IsNextStep seen step
  next = next_step script many _ old might before taken at

  -- The line led on.
  pub led_taken : (bad : Option WireFault) → HasLedAtWork old seen step new may behind bad
      → HasTakenLines script (many + 1) new may behind
  led_taken bad led = record {
    seen = after_step from step more;
    keeps = record { between = led.led.stands; workers = led.workers };
    of_script = goes.of_script ∙ taken.of_script;
    taken =
        line_counts from.script (given (more ++ from.halts)) from.standing step (later_steps from)
        (script_in_range from.script goes.so_far.is_script) goes.so_far.under
        ((λ i. slice_get (goes.of_script i).steps (goes.lines i)) ∙ next)
        ∙ ap (λ n. n + 1) (goes.lines ∙ taken.taken);
    goes_on = may_go;
    agrees = λ s none.
        line_agrees from step more led.led.of_line goes.so_far.past s
        (led.led.stands.keeps.runs.stops.said s (none, may_go))
        (from_agrees step.act seen from old might taken.keeps.between s
        (knows.disks s none, taken.goes_on) led.is_from (taken.agrees s (knows.disks s none)));
  }
    where
      from : Seen
      from = led.from

      more : List Halt
      more = led.led.more

      goes : GoesFrom seen from
      goes = goes_from _ _ _ _ _ taken.keeps.between led.is_from

  -- It was refused.
  pub refused_taken : (refusal : LineRefusal) → HasRefusedLine seen step new may behind refusal
      → HasTakenLines script (many + 1) new may behind
  refused_taken refusal refused = record {
    seen = after_step seen step [];
    keeps = refused.stands;
    of_script = taken.of_script;
    taken =
        line_counts _ (given seen.halts) _ _ (later_steps seen) (script_in_range seen.script
        taken.keeps.between.is_script) taken.keeps.between.keeps.runs.under next ∙ ap (λ n. n + 1)
        taken.taken;
    goes_on = may_go;
    agrees = λ s none.
        subst (AgreesAt s (given seen.halts)) (sym (refused_is seen step refusal refused.test))
        (taken.agrees s (knows.disks s none));
  }

-- the next line, by what it comes to
module _ (script : Script) (step : Step) (old new : LinesFields) (might may : ℕ → Logged → Type 0)
    (before behind : Workers) (seen : Seen) (stood : StandsAs seen old might before)
    (next : IsNextStep seen step) (of_script : seen.script ≡ script)
    (goes : MayGoOn new.works.failed new.works.nodes)
    (knows : KnowsMore old.works.failed new.works.failed) where
  bodies_of : script.bodies ≡ seen.script.bodies
  bodies_of = ap (λ (s : Script). s.bodies) (sym of_script)

  pub line_led : (bad : Option WireFault)
      → IsAtWorkLine step script.bodies old might before new may behind (Ok bad)
      → HasLedLine seen step (λ x. StandsAs x new may behind) bad
  line_led bad line =
      let led : HasLedAtWork old seen step new may behind bad = line seen stood.keeps next bodies_of
      in
      let taken =
      led_taken seen.script (lines_taken seen) step old new might may before behind
      (of_stands seen old might before stood) next goes knows bad led in record {
        after = taken.seen;
        stands = as_stands taken;
        of_script = taken.of_script;
        one_more = taken.taken;
        fault = led.fault;
      }

  line_refused : (refusal : LineRefusal) → HasRefusedLine seen step new may behind refusal
      → IsRefusedLine seen step (λ x. StandsAs x new may behind) refusal
  unfolding refused_taken
  line_refused refusal refused =
      let taken =
      refused_taken seen.script (lines_taken seen) step old new might may before behind
      (of_stands seen old might before stood) next goes knows refusal refused in record {
        test = refused.test;
        stands = as_stands taken;
        one_more = taken.taken;
      }

  pub line_ended : (fault : CourseFault)
      → IsAtWorkLine step script.bodies old might before new may behind (Err fault)
      → IsLineOf seen step (λ x. StandsAs x new may behind) (Err (ended_by fault))
  line_ended (faults.Line (line_faults.Refused refusal)) line =
      line_refused refusal (line seen stood.keeps next bodies_of)
  line_ended (faults.Line line_faults.NoMemory) line = tt
  line_ended faults.RestartFailed line = tt

-- So the lines that were taken are one more.
module _ (script : Script) (step : Step) (old new : LinesFields) (might may : ℕ → Logged → Type 0)
    (before behind : Workers) where
  pub next_led : (done : LineDone)
      → IsLine script step (λ x. StandsAs x old might before) (λ x. StandsAs x new may behind)
      (Ok done)
      → HasTakenNext script step old might before new may behind
  next_led done line many taken at =
      let led =
      line taken.seen (as_stands taken) (next_step script many step old might before taken at)
      taken.of_script in record {
        seen = led.after;
        keeps = led.stands.keeps;
        of_script = led.of_script ∙ taken.of_script;
        taken = led.one_more ∙ ap (λ n. n + 1) taken.taken;
        goes_on = led.stands.goes_on;
        agrees = led.stands.agrees;
      }

  pub next_refused : (fault : ClusterFault) (refusal : LineRefusal)
      → fault ≡ cluster_faults.Refused refusal
      → IsLine script step (λ x. StandsAs x old might before) (λ x. StandsAs x new may behind)
      (Err fault)
      → HasTakenNext script step old might before new may behind
  next_refused fault refusal is line many taken at =
      let refused : IsRefusedLine taken.seen step (λ x. StandsAs x new may behind) refusal =
      subst (λ (f : ClusterFault). IsLine script step (λ x. StandsAs x old might before)
      (λ x. StandsAs x new may behind) (Err f)) is line taken.seen (as_stands taken)
      (next_step script many step old might before taken at) taken.of_script in record {
        seen = after_step taken.seen step [];
        keeps = refused.stands.keeps;
        of_script = taken.of_script;
        taken = refused.one_more ∙ ap (λ n. n + 1) taken.taken;
        goes_on = refused.stands.goes_on;
        agrees = refused.stands.agrees;
      }
