-- `start`, taken: the action that it creates works at the body.
use Rattle.std.proofs.Common.{◌≡◌, ℕ, ◌-◌, List, [], ◌∷◌, ◌++◌, length, Option, Some, None}
use Rattle.std.proofs.Common.{Ok, Err, refl, sym, ap, ◌∙◌, subst, arith}
use Rattle.std.specs.Prelude.{unwrap_or}
use Rattle.std.proofs.lemmas.Bool.{and_parts}
use Rattle.std.proofs.lemmas.List.{length-append}
use Rattle.cam_bytes.specs.declared.WireFault.{WireFault}
use Rattle.cam_names.specs.declared.name.Name.{Name}
use Rattle.cam_event.specs.declared.LineRefusal.{LineRefusal}
use Rattle.cam_event.specs.Inputs.{Begins}
use Rattle.cam_event.specs.Pasts.{plain_all}
use Rattle.cam_event.specs.Readings.{by_pasts}
use Rattle.cam_event.specs.Runs.{IsNode}
use Rattle.cam_node.specs.Log.{Logged}
use Rattle.cam_runs.specs.Halts.{Halt}
use Rattle.cam_runs.specs.HaltedLines.{Passed, act, after_line, is_halted, led_creating, unless}
use Rattle.cam_runs.specs.HaltedPlaying.{given_body}
use Rattle.cam_runs.specs.Playing.{body_number}
use Rattle.cam_runs.specs.Requests.{created_in}
use Rattle.cam_runs.specs.Standing.{Setting, Standing, made, put}
use Rattle.cam_runs.specs.UnderWay.{Known}
use Rattle.cam_runs.proofs.Beginnings.{at_end}
use Rattle.cam_runs.proofs.HaltedNew.{created_new}
use Rattle.cam_runs.proofs.HaltedParts.{awake_by}
use Rattle.cam_script.specs.declared.Act.{Act}
use Rattle.cam_script.specs.declared.Act.TheVariants as acts
use Rattle.cam_script.specs.declared.Statement.{Statement}
use Rattle.cam_script.specs.declared.Step.{Step}
use Rattle.cam_script.specs.Law.{is_node}
use Rattle.cam_histories.specs.Lines.{line_refusal}
use Rattle.cam_cluster.specs.declared.LineFault.TheVariants as line_faults
use Rattle.cam_cluster.specs.declared.course.CourseFault.TheVariants as faults
use Rattle.cam_cluster.specs.declared.workers.Workers.{Workers}
use Rattle.cam_cluster.specs.Between.{KeepsBetween, after_step}
use Rattle.cam_cluster.specs.Courses.{IsAtWorkLine, IsCourseWanting}
use Rattle.cam_cluster.specs.Seen.{IsNextStep, Seen, setting_in}
use Rattle.cam_cluster.specs.SoFar.{LinesFields}
use Rattle.cam_cluster.specs.Taking.{IsStepTaken}
use Rattle.cam_cluster.specs.VariableLines.{action_of}
use Rattle.cam_cluster.specs.Workers.{AreWorkers}
use Rattle.cam_cluster.proofs.BodiesStay.{put_stays}
use Rattle.cam_cluster.proofs.CourseFrom.{from_itself}
use Rattle.cam_cluster.proofs.InputsExtend.{put_extends}
use Rattle.cam_cluster.proofs.StepHolds.{next_holds, node_within}
use Rattle.cam_cluster.proofs.WorkersStand.{workers_stay}

-- what a call that gives a body says of the workers, where the action has none yet
abbrev pub Gives : Option ℕ → Option Name → Workers → Workers → Type 0
Gives body action old new =
    (st : Standing)
    → ((a : Name) → action ≡ Some a → body_number st.running.bodies a ≡ None)
    → AreWorkers st old → AreWorkers (given_body body action st) new

-- the newest variable
newest_of : (bound : List (Option Name)) (binds : Option Name)
    → action_of (bound ++ binds ∷ []) (length (bound ++ binds ∷ []) - 1) ≡ binds
newest_of bound binds =
    let one_more : length (bound ++ binds ∷ []) - 1 ≡ length bound =
    let long = length-append bound (binds ∷ []) in omega (arith, long) in
    ap (action_of (bound ++ binds ∷ [])) one_more
    ∙ ap (λ (o : Option (Option Name)). unwrap_or o None) (at_end bound [] binds)

-- The line leads on where its node is not halted.
led_unless : (o : Option LineRefusal) (passed : Passed) → o ≡ None → unless o passed ≡ passed
led_unless None passed none = refl
led_unless (Some refusal) passed none =
    let gone : ◌≡◌ {A = Option LineRefusal} (Some refusal) None = none in cc

module _ (seen : Seen) (step : Step) (s body : ℕ) (is : step.act ≡ acts.Start s body)
    (old : LinesFields) (might : ℕ → Logged → Type 0) (keeps : KeepsBetween seen old might)
    (next : IsNextStep seen step) (more : List Halt) (awake : is_halted seen.standing s ≡ None)
  where
    abbrev c : Setting
    c = setting_in by_pasts seen (more ++ seen.halts) step

    abbrev after : Standing
    after = put c seen.standing (Begins s)

    abbrev binds : Option Name
    binds = created_in (made seen.standing after)

    node : IsNode s
    node =
        let holds =
        next_holds seen.script seen.standing step.line (acts.Start s body) keeps.is_script (rw (←
        is) next) in
        let within =
        node_within _ _ (and_parts (is_node seen.script.nodes s) _ holds.1).0 in (
          within.0,
          let most = within.1 in let eight = keeps.is_script.eight_nodes in omega (
            arith,
            most,
            eight,
          ),
        )

    leads : act c seen.script.bodies seen.standing step.act
        ≡ led_creating (Some body) seen.standing after
    leads =
        ap (act c seen.script.bodies seen.standing) is ∙ led_unless _ (led_creating (Some body)
        seen.standing after) awake

    -- The action that it creates has no body yet.
    bare : (a : Name) → binds ≡ Some a → body_number after.running.bodies a ≡ None
    bare a creates =
        ap (λ given. body_number given a) (put_stays c seen.standing (Begins s)) ∙ by (body_number
        seen.standing.running.bodies a) refl (created_new _ c _ _ _ keeps.keeps.runs.under node
        creates).0.fresh
      where
        by : (o : Option ℕ) → body_number seen.standing.running.bodies a ≡ o
            → (Known (plain_all seen.standing.running.trace) a → ⊥)
            → body_number seen.standing.running.bodies a ≡ None
        by None at fresh = at
        by (Some m) at fresh = absurd (fresh (keeps.keeps.runs.under.works a m at).known)

    given_on : (new : LinesFields) (may : ℕ → Logged → Type 0) (before behind : Workers)
        → KeepsBetween (after_step seen step more) new may → AreWorkers seen.standing before
        → Gives (Some body) (action_of new.bound (length new.bound - 1)) before behind
        → AreWorkers (after_step seen step more).standing behind
    given_on new may before behind stands are gives =
        subst (λ (p : Passed). AreWorkers (after_line seen.standing step.line p) behind) (sym leads)
        (workers_stay (given_body (Some body) binds after)
        (after_line seen.standing step.line (led_creating (Some body) seen.standing after)) behind
        [] refl refl
        (subst (λ (o : Option Name). AreWorkers (given_body (Some body) o after) behind) newest
        (gives after (λ a is_newest. bare a (sym newest ∙ is_newest))
        (let put_on = put_extends c (more ++ seen.halts) refl seen.standing (Begins s)
        (awake_by seen.standing s awake) in
        workers_stay seen.standing after before put_on.events (put_stays c seen.standing (Begins s))
        put_on.trace are))))
      where
        newest : action_of new.bound (length new.bound - 1) ≡ binds
        newest =
            ap (λ (bs : List (Option Name)). action_of bs (length bs - 1))
            (stands.keeps.variables
            ∙ ap (λ (p : Passed). (after_line seen.standing step.line p).running.bound) leads)
            ∙ newest_of (given_body (Some body) binds after).running.bound binds

pub start_at_work : (step : Step) (s body : ℕ) (bodies : List (List Statement))
    (old new : LinesFields) (might may : ℕ → Logged → Type 0) (first before behind : Workers)
    (bad : Option WireFault) → step.act ≡ acts.Start s body
    → ((st : Standing) → AreWorkers st first → AreWorkers st before)
    → Gives (Some body) (action_of new.bound (length new.bound - 1)) before behind
    → IsStepTaken step old might new may (Ok bad)
    → IsAtWorkLine step bodies old might first new may behind (Ok bad)
start_at_work step s body bodies old new might may first before behind bad is stay gives taken seen
    keeps next same =
    let so = taken seen keeps.between next in record {
      from = seen;
      is_from = from_itself old.works step.act seen (λ m at. apart m (sym is ∙ at));
      led = so.0;
      workers =
          given_on seen step s body is old might keeps.between next so.0.more
          (ap (line_refusal (by_pasts seen.script.objects) seen.standing) (sym is) ∙ so.0.passed)
          new may before behind so.0.stands (stay seen.standing keeps.workers) gives;
      fault = so.1;
    }
  where
    apart : (m : ℕ) → acts.Start s body ≡ acts.Restart m → ⊥
    apart m same = cc

-- Memory runs out before.
pub start_wanting : (step : Step) (s body : ℕ) (bodies : List (List Statement))
    (lines : LinesFields)
    (may : ℕ → Logged → Type 0) (first before : Workers) → step.act ≡ acts.Start s body
    → ((st : Standing) → AreWorkers st first → AreWorkers st before)
    → IsAtWorkLine step bodies lines may first lines may before
    (Err (faults.Line line_faults.NoMemory))
start_wanting step s body bodies lines may first before is stay seen keeps next same =
    rw is (record {
      between = keeps.between;
      workers = stay seen.standing keeps.workers;
    })
