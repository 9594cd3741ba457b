-- What a line comes to has its bodies at nodes of the script, where what stood before it has.
use Rattle.std.proofs.Common.{◌≡◌, ℕ, Bool, true, false, if◌then◌else◌, List}
use Rattle.std.proofs.Common.{◌∷◌, length, Option, Some, None, sym, subst}
use Rattle.std.specs.Prelude.{nat_lt}
use Rattle.std.proofs.lemmas.Bool.{and_parts}
use Rattle.cam_names.specs.declared.name.Name.{Name}
use Rattle.cam_names.specs.Names.{family, home_node}
use Rattle.cam_event.specs.declared.LetterId.{LetterId}
use Rattle.cam_event.specs.declared.LineRefusal.{LineRefusal}
use Rattle.cam_event.specs.declared.LetterFault.TheVariants.{Short}
use Rattle.cam_event.specs.declared.Mark.TheVariants as marks
use Rattle.cam_event.specs.declared.Want.{Want}
use Rattle.cam_event.specs.declared.Want.TheVariants as wants
use Rattle.cam_event.specs.Inputs.{Begins, Queries, Requests, Restarts, Tells}
use Rattle.cam_event.specs.Refusals.{query_refusal, refusal, tell_refusal}
use Rattle.cam_runs.specs.Halts.{Stop}
use Rattle.cam_runs.specs.HaltedLines.{Led, Passed, Refused, act, after_line, cut, halted_or}
use Rattle.cam_runs.specs.HaltedLines.{is_halted, led_asking, led_creating, lose, of_letter}
use Rattle.cam_runs.specs.HaltedLines.{of_variable, take_request, unless}
use Rattle.cam_runs.specs.HaltedPlaying.{go, requested}
use Rattle.cam_runs.specs.Playing.{go_refusal}
use Rattle.cam_runs.specs.Requests.{created_in, home_sight, variable}
use Rattle.cam_runs.specs.Running.{letter_of, waiting_weight}
use Rattle.cam_runs.specs.Standing.{Setting, Standing, addressee, deliver, ended_halt}
use Rattle.cam_runs.specs.Standing.{made, put, with_mark}
use Rattle.cam_runs.proofs.HaltedPuts.{pasts}
use Rattle.cam_script.specs.declared.Act.{Act}
use Rattle.cam_script.specs.declared.Act.TheVariants as acts
use Rattle.cam_script.specs.declared.Script.{Script}
use Rattle.cam_script.specs.declared.Step.{Step}
use Rattle.cam_script.specs.Law.{IsScript, act_holds, is_node}
use Rattle.cam_wire.specs.OfTrace.{spelling_of}
use Rattle.cam_cluster.proofs.Bindings.{asked_at, created_at}
use Rattle.cam_cluster.proofs.BodiesPlaced.{HasPlaced, deliveries_placed, delivery_placed}
use Rattle.cam_cluster.proofs.BodiesPlaced.{given_placed, go_placed, put_placed, rounds_placed}
use Rattle.cam_cluster.proofs.StepHolds.{node_within}
use Rattle.std.specs.Prelude.{◌≤◌}

module _ (script : Script) (is : IsScript script) (c : Setting) (st : Standing)
    (placed : HasPlaced script.nodes st) where
  abbrev d : Setting
  d = pasts script c

  -- what a line comes to
  abbrev pub LeadsPlaced : Passed → Type 0
  LeadsPlaced (Refused refusal) = Unit {0}
  LeadsPlaced (Led new binds) = HasPlaced script.nodes new

  unless_placed : (o : Option LineRefusal) (p : Passed) → LeadsPlaced p → LeadsPlaced (unless o p)
  unless_placed (Some refusal) p leads = tt
  unless_placed None p leads = leads

  variable_placed : (o : Option Name) (f : Name → Passed) → ((x : Name) → LeadsPlaced (f x))
      → LeadsPlaced (of_variable o f)
  variable_placed None f leads = tt
  variable_placed (Some x) f leads = leads x

  letter_placed : (o : Option LetterId) (f : LetterId → Passed)
      → ((x : LetterId) → LeadsPlaced (f x)) → LeadsPlaced (of_letter o f)
  letter_placed None f leads = tt
  letter_placed (Some x) f leads = leads x

  request_placed : (x : Name) (want : Want) → LeadsPlaced (take_request d st x want)
  request_placed x want =
      unless_placed (halted_or st (home_node x) (refusal (home_sight d.reading st.running x) x
      want)) (led_asking st (requested d st x want)) (put_placed _ d st (Requests (record {
        action
            = x;
        want = want;
      })) placed)

  asked_placed : (v : ℕ) (want : Want)
      → LeadsPlaced (of_variable (variable st.running v) (λ x. take_request d st x want))
  asked_placed v want =
      variable_placed (variable st.running v) (λ x. take_request d st x want)
      (λ x. request_placed x want)

  begun_placed : (body : Option ℕ) (s : ℕ) → is_node script.nodes s ≡ true
      → LeadsPlaced (unless (is_halted st s) (led_creating body st (put d st (Begins s))))
  begun_placed body s holds =
      unless_placed (is_halted st s) (led_creating body st (put d st (Begins s))) (given_placed _
      body (created_in (made st (put d st (Begins s)))) (put d st (Begins s)) (put_placed _ d st
      (Begins s) placed) (λ n is_n a is_a. subst (λ (m : ℕ). (1 ≤ m) × (m ≤ script.nodes)) (sym
      (created_at script c st _ _ is_a)) (node_within _ _ holds)))

  cut_placed : (k bytes : ℕ) (l : LetterId) → HasPlaced script.nodes (cut d st k bytes l)
  cut_placed k bytes l =
      by (nat_lt bytes (length (spelling_of d.reading st.running.trace l)))
    where
      by : (b : Bool)
          → HasPlaced script.nodes (if b then record st {
            running = with_mark (marks.Cut d.line k Short bytes) st.running;
          } else deliver d st k l)
      by true = placed
      by false = delivery_placed script.nodes d st k l placed

  pub act_placed : (before : List Step) (act_is : Act)
      → act_holds script.nodes script.objects (length script.bodies) before act_is ≡ true
      → LeadsPlaced (act d script.bodies st act_is)
  act_placed before (acts.Begin s) holds = begun_placed None s holds
  act_placed before (acts.Start s body) holds =
      begun_placed (Some body) s
      (and_parts (is_node script.nodes s) (nat_lt body (length script.bodies)) holds).0
  act_placed before (acts.Ask p m) holds = asked_placed p (wants.Ask m)
  act_placed before (acts.Call v x op) holds = asked_placed v (wants.Call x op)
  act_placed before (acts.Commit v value) holds = asked_placed v (wants.Commit value)
  act_placed before (acts.Abort v) holds = asked_placed v wants.Abort
  act_placed before (acts.GiveUp v w) holds =
      variable_placed (variable st.running v)
      (λ x. of_variable (variable st.running w) (λ y. take_request d st x (wants.GiveUp y)))
      (λ x. variable_placed (variable st.running w) (λ y. take_request d st x (wants.GiveUp y))
      (λ y. request_placed x (wants.GiveUp y)))
  act_placed before (acts.Go v) holds =
      variable_placed (variable st.running v)
      (λ x. unless (halted_or st (home_node x) (go_refusal (home_sight d.reading st.running x) x))
      (Led (go d script.bodies st x) None))
      (λ x. unless_placed
      (halted_or st (home_node x) (go_refusal (home_sight d.reading st.running x) x))
      (Led (go d script.bodies st x) None)
      (go_placed script is d (asked_at script c) st x placed))
  act_placed before (acts.Deliver k) holds =
      letter_placed (letter_of st.running k)
      (λ l. unless (is_halted st (addressee st l)) (Led (deliver d st k l) None))
      (λ l. unless_placed (is_halted st (addressee st l)) (Led (deliver d st k l) None)
      (delivery_placed script.nodes d st k l placed))
  act_placed before (acts.Cut k bytes) holds =
      letter_placed (letter_of st.running k)
      (λ l. unless (is_halted st (addressee st l)) (Led (cut d st k bytes l) None))
      (λ l. unless_placed (is_halted st (addressee st l)) (Led (cut d st k bytes l) None)
      (cut_placed k bytes l))
  act_placed before (acts.Lose k) holds =
      letter_placed (letter_of st.running k) (λ l. Led (lose st k) None) (λ l. placed)
  act_placed before (acts.Restart s) holds =
      put_placed script.nodes d (ended_halt st s) (Restarts s) placed
  act_placed before acts.Drain holds =
      deliveries_placed script.nodes d (waiting_weight st.running) st placed
  act_placed before acts.Play holds =
      rounds_placed script is d (asked_at script c) 514 st placed
  act_placed before (acts.Tell s to) holds =
      unless_placed (halted_or st s (tell_refusal s to)) (Led (put d st (Tells s to)) None)
      (put_placed script.nodes d st (Tells s to) placed)
  act_placed before (acts.Query s v) holds =
      variable_placed (variable st.running v)
      (λ x. unless (halted_or st s (query_refusal (d.reading.sight st.running.trace s) (family x)))
      (Led (put d st (Queries s (family x))) None))
      (λ x. unless_placed
      (halted_or st s (query_refusal (d.reading.sight st.running.trace s) (family x)))
      (Led (put d st (Queries s (family x))) None)
      (put_placed script.nodes d st (Queries s (family x)) placed))
  act_placed before (acts.Stop s calls) holds =
      unless_placed (is_halted st s)
      (Led (record st { turns = Stop s calls ∷ st.turns }) None) placed

  -- and so what stands after the line
  pub line_placed : (line : ℕ) (p : Passed) → LeadsPlaced p
      → HasPlaced script.nodes (after_line st line p)
  line_placed line (Refused refusal) leads = placed
  line_placed line (Led new binds) leads = leads
