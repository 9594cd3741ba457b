-- A line extends what stands after its stop or restart, whatever it comes to.
use Rattle.std.proofs.Common.{◌≡◌, ℕ, Bool, true, false, if◌then◌else◌, List, [], ◌∷◌, length}
use Rattle.std.proofs.Common.{Option, Some, None, refl}
use Rattle.std.specs.Prelude.{nat_lt}
use Rattle.cam_names.specs.declared.name.Name.{Name}
use Rattle.cam_names.specs.Names.{family, home_node}
use Rattle.cam_event.specs.declared.LetterFault.TheVariants.{Short}
use Rattle.cam_event.specs.declared.LetterId.{LetterId}
use Rattle.cam_event.specs.declared.LineRefusal.{LineRefusal}
use Rattle.cam_event.specs.declared.LineRefusal.TheVariants as refusals
use Rattle.cam_event.specs.declared.Mark.TheVariants as marks
use Rattle.cam_event.specs.declared.Want.{Want}
use Rattle.cam_event.specs.declared.Want.TheVariants as wants
use Rattle.cam_event.specs.Inputs.{Begins, Queries, Requests, Restarts, Tells}
use Rattle.cam_event.specs.Refusals.{query_refusal, refusal, tell_refusal, where_so}
use Rattle.cam_runs.specs.Halts.{Halt, Stop, given}
use Rattle.cam_runs.specs.HaltedLines.{Led, Passed, Refused, act, after_line, cut, halted_or}
use Rattle.cam_runs.specs.HaltedLines.{is_halted, led_asking, led_creating, lose, of_letter}
use Rattle.cam_runs.specs.HaltedLines.{of_variable, take_request, unless}
use Rattle.cam_runs.specs.HaltedPlaying.{given_body, go, play, requested}
use Rattle.cam_runs.specs.Playing.{go_refusal}
use Rattle.cam_runs.specs.Requests.{asked_in, created_in, home_sight, variable}
use Rattle.cam_runs.specs.Running.{has_number, letter_of}
use Rattle.cam_runs.specs.Standing.{Setting, Standing, addressee, deliver, drain, ended_halt, made}
use Rattle.cam_runs.specs.Standing.{put, with_mark}
use Rattle.cam_runs.proofs.HaltedParts.{awake_by}
use Rattle.cam_script.specs.declared.Act.{Act}
use Rattle.cam_script.specs.declared.Act.TheVariants as acts
use Rattle.cam_script.specs.declared.Statement.{Statement}
use Rattle.cam_wire.specs.OfTrace.{spelling_of}
use Rattle.cam_cluster.proofs.Extends.{Extends, extends_on, same_extends}
use Rattle.cam_cluster.proofs.InputsExtend.{deliver_extends, drain_extends, given_extends}
use Rattle.cam_cluster.proofs.InputsExtend.{go_extends, put_extends, rounds_extend}
use Rattle.cam_cluster.proofs.Begun.{begun, first_none, ended_awake}

module _ (c : Setting) (halts : List Halt) (known : c.halts ≡ given halts)
    (bodies : List (List Statement)) (st : Standing) (line : ℕ) where
  abbrev Left : Passed → Type 0
  Left passed = Extends halts st (after_line st line passed)

  awake_or : (s : ℕ) (other : Option LineRefusal) → halted_or st s other ≡ None
      → has_number st.halted s ≡ false
  awake_or s other none = awake_by st s (first_none _ other none)

  refused_leaves : (refusal : LineRefusal) → Left (Refused refusal)
  refused_leaves refusal = record {
    events = [];
    trace = refl;
    more = [];
    turns = refl;
    lost = λ none lost. lost;
    stopped = λ m so. so;
    agrees = λ none m so agrees. agrees;
  }

  led_leaves : (new : Standing) (binds : Option Name) → Extends halts st new
      → Left (Led new binds)
  led_leaves new binds so = extends_on _ _ _ _ so (same_extends _ _ _ refl refl refl)

  unless_leaves : (o : Option LineRefusal) (passed : Passed) → (o ≡ None → Left passed)
      → Left (unless o passed)
  unless_leaves (Some refusal) passed so = refused_leaves refusal
  unless_leaves None passed so = so refl

  variable_leaves : (o : Option Name) (line_is : Name → Passed)
      → ((a : Name) → Left (line_is a)) → Left (of_variable o line_is)
  variable_leaves (Some a) line_is so = so a
  variable_leaves None line_is so = refused_leaves _

  letter_leaves : (o : Option LetterId) (line_is : LetterId → Passed)
      → ((l : LetterId) → Left (line_is l)) → Left (of_letter o line_is)
  letter_leaves (Some l) line_is so = so l
  letter_leaves None line_is so = refused_leaves _

  creating_leaves : (s : ℕ) (body : Option ℕ)
      → Left (unless (is_halted st s) (led_creating body st (put c st (Begins s))))
  creating_leaves s body =
      let after = put c st (Begins s) in
      let binds = created_in (made st after) in
      unless_leaves (is_halted st s) (led_creating body st after) (λ none. led_leaves (given_body
      body binds after) binds (extends_on _ _ _ _ (put_extends c _ known _ (Begins s)
      (awake_by st s none)) (given_extends c _ known _ _ _)))

  request_leaves : (a : Name) (want : Want) → Left (take_request c st a want)
  request_leaves a want =
      let after = requested c st a want in
      let test = refusal (home_sight c.reading st.running a) a want in
      unless_leaves (halted_or st (home_node a) test) (led_asking st after) (λ none. led_leaves
      after (asked_in (made st after)) (put_extends c _ known _ (Requests (record {
        action = a;
        want = want;
      })) (awake_or (home_node a) test none)))

  of_variable_leaves : (v : ℕ) (want : Want)
      → Left (of_variable (variable st.running v) (λ a. take_request c st a want))
  of_variable_leaves v want =
      variable_leaves (variable st.running v) (λ a. take_request c st a want)
      (λ a. request_leaves a want)

  cut_extends : (k bytes : ℕ) (l : LetterId) → has_number st.halted (addressee st l) ≡ false
      → Extends halts st (cut c st k bytes l)
  cut_extends k bytes l awake =
      by (nat_lt bytes (length (spelling_of c.reading st.running.trace l)))
    where
      short : Standing
      short = record st { running = with_mark (marks.Cut c.line k Short bytes) st.running }

      by : (b : Bool) → Extends halts st (if b then short else deliver c st k l)
      by true = record {
        events = [];
        trace = refl;
        more = [];
        turns = refl;
        lost = λ none lost. lost;
        stopped = λ m so. so;
        agrees = λ none m so agrees. agrees;
      }
      by false = deliver_extends c _ known _ _ _ awake

  stop_leaves : (s calls : ℕ) → (b : Bool) → has_number st.halted s ≡ b
      → let stopped : Standing = record st { turns = Stop s calls ∷ st.turns } in
      Extends halts (if b then st else stopped)
      (after_line st line (unless (where_so b refusals.Halted) (Led stopped None)))
  stop_leaves s calls true is = refused_leaves refusals.Halted
  stop_leaves s calls false is = same_extends _ _ _ refl refl refl

  pub act_extends : (does : Act)
      → Extends halts (begun st does) (after_line st line (act c bodies st does))
  act_extends (acts.Begin s) = creating_leaves s None
  act_extends (acts.Start s body) = creating_leaves s (Some body)
  act_extends (acts.Ask p m) = of_variable_leaves p (wants.Ask m)
  act_extends (acts.Call v x op) = of_variable_leaves v (wants.Call x op)
  act_extends (acts.Commit v value) = of_variable_leaves v (wants.Commit value)
  act_extends (acts.Abort v) = of_variable_leaves v wants.Abort
  act_extends (acts.GiveUp v w) =
      variable_leaves (variable st.running v)
      (λ a. of_variable (variable st.running w) (λ b. take_request c st a (wants.GiveUp b)))
      (λ a. variable_leaves (variable st.running w) (λ b. take_request c st a (wants.GiveUp b))
      (λ b. request_leaves a (wants.GiveUp b)))
  act_extends (acts.Go v) =
      variable_leaves (variable st.running v)
      (λ a. unless (halted_or st (home_node a) (go_refusal (home_sight c.reading st.running a) a))
      (Led (go c bodies st a) None))
      (λ a. unless_leaves
      (halted_or st (home_node a) (go_refusal (home_sight c.reading st.running a) a))
      (Led (go c bodies st a) None)
      (λ none. led_leaves (go c bodies st a) None
      (go_extends c halts known bodies st a
      (awake_or (home_node a) (go_refusal (home_sight c.reading st.running a) a) none))))
  act_extends (acts.Deliver k) =
      letter_leaves (letter_of st.running k)
      (λ l. unless (is_halted st (addressee st l)) (Led (deliver c st k l) None))
      (λ l. unless_leaves (is_halted st (addressee st l)) (Led (deliver c st k l) None)
      (λ none. led_leaves (deliver c st k l) None
      (deliver_extends c halts known st k l (awake_by st (addressee st l) none))))
  act_extends (acts.Cut k bytes) =
      letter_leaves (letter_of st.running k)
      (λ l. unless (is_halted st (addressee st l)) (Led (cut c st k bytes l) None))
      (λ l. unless_leaves (is_halted st (addressee st l)) (Led (cut c st k bytes l) None)
      (λ none. led_leaves (cut c st k bytes l) None
      (cut_extends k bytes l (awake_by st (addressee st l) none))))
  act_extends (acts.Lose k) =
      letter_leaves (letter_of st.running k) (λ l. Led (lose st k) None)
      (λ l. led_leaves (lose st k) None (same_extends halts st (lose st k) refl refl refl))
  act_extends (acts.Restart s) =
      let ended = ended_halt st s in
      let after = put c ended (Restarts s) in
      extends_on halts ended after (after_line st line (Led after None))
      (put_extends c halts known ended (Restarts s) (ended_awake st s))
      (same_extends halts after (after_line st line (Led after None)) refl refl refl)
  act_extends acts.Drain =
      led_leaves (drain c st) None (drain_extends c halts known st)
  act_extends acts.Play =
      led_leaves (play c bodies st) None (rounds_extend c halts known bodies 514 st)
  act_extends (acts.Tell s to) =
      unless_leaves (halted_or st s (tell_refusal s to)) (Led (put c st (Tells s to)) None)
      (λ none. led_leaves (put c st (Tells s to)) None
      (put_extends c halts known st (Tells s to) (awake_or s (tell_refusal s to) none)))
  act_extends (acts.Query s v) =
      variable_leaves (variable st.running v)
      (λ a. unless (halted_or st s (query_refusal (c.reading.sight st.running.trace s) (family a)))
      (Led (put c st (Queries s (family a))) None))
      (λ a. unless_leaves
      (halted_or st s (query_refusal (c.reading.sight st.running.trace s) (family a)))
      (Led (put c st (Queries s (family a))) None)
      (λ none. led_leaves (put c st (Queries s (family a))) None
      (put_extends c halts known st (Queries s (family a))
      (awake_or s (query_refusal (c.reading.sight st.running.trace s) (family a)) none))))
  act_extends (acts.Stop s calls) = stop_leaves s calls (has_number st.halted s) refl
