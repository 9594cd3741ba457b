-- The action to which a line binds its variable is at a node of the script.
use Rattle.std.proofs.Common.{◌≡◌, ℕ, ◌≤◌, true, List}
use Rattle.std.proofs.Common.{◌∷◌, length, Option, Some, None, sym, subst}
use Rattle.std.specs.Prelude.{nat_lt}
use Rattle.std.proofs.lemmas.Bool.{and_parts}
use Rattle.cam_names.specs.declared.name.Name.{Name}
use Rattle.cam_names.specs.Names.{family, home_node}
use Rattle.cam_event.specs.declared.LetterId.{LetterId}
use Rattle.cam_event.specs.declared.LineRefusal.{LineRefusal}
use Rattle.cam_event.specs.declared.Want.{Want}
use Rattle.cam_event.specs.declared.Want.TheVariants as wants
use Rattle.cam_event.specs.Inputs.{Begins, Queries, Tells}
use Rattle.cam_event.specs.Refusals.{query_refusal, refusal, tell_refusal}
use Rattle.cam_runs.specs.HaltedPlaying.{go, requested}
use Rattle.cam_runs.specs.Halts.{Stop}
use Rattle.cam_runs.specs.Playing.{go_refusal}
use Rattle.cam_runs.specs.HaltedLines.{Passed, Refused, Led, act, of_letter}
use Rattle.cam_runs.specs.HaltedLines.{cut, halted_or, is_halted, led_asking, led_creating}
use Rattle.cam_runs.specs.HaltedLines.{lose, of_variable, take_request, unless}
use Rattle.cam_runs.specs.Requests.{home_sight, variable}
use Rattle.cam_runs.specs.Running.{letter_of}
use Rattle.cam_runs.specs.Standing.{Standing, Setting, addressee, deliver, put}
use Rattle.cam_runs.proofs.HaltedPuts.{pasts}
use Rattle.cam_script.specs.declared.Act.{Act}
use Rattle.cam_script.specs.declared.Act.TheVariants as acts
use Rattle.cam_script.specs.declared.Script.{Script}
use Rattle.cam_script.specs.declared.Step.{Step}
use Rattle.cam_script.specs.declared.Use.TheVariants as uses
use Rattle.cam_script.specs.Law.{act_holds, is_node, may_use}
use Rattle.cam_cluster.specs.VariableLines.{IsAtNode}
use Rattle.cam_cluster.proofs.Bindings.{IsAskedAt, asked_at, created_at}
use Rattle.cam_cluster.proofs.StepHolds.{node_within}

-- what a line binds its variable to
abbrev pub binds_of : Passed → Option Name
binds_of (Refused refusal) = None
binds_of (Led st binds) = binds

pub none : {X : Type 0} (a : Name) → None ≡ Some a → X
none a h = cc

module _ (a : Name) {X : Type 0} where
  unless_binds : (o : Option LineRefusal) (p : Passed) → (binds_of p ≡ Some a → X)
      → binds_of (unless o p) ≡ Some a → X
  unless_binds (Some refusal) p rest h = none _ h
  unless_binds None p rest h = rest h

  variable_binds : (o : Option Name) (f : Name → Passed)
      → ((x : Name) → binds_of (f x) ≡ Some a → X) → binds_of (of_variable o f) ≡ Some a → X
  variable_binds None f rest h = none _ h
  variable_binds (Some x) f rest h = rest x h

  letter_binds : (o : Option LetterId) (f : LetterId → Passed)
      → ((x : LetterId) → binds_of (f x) ≡ Some a → X) → binds_of (of_letter o f) ≡ Some a → X
  letter_binds None f rest h = none _ h
  letter_binds (Some x) f rest h = rest x h

module _ (script : Script) (c : Setting) (st : Standing) (a : Name) where
  abbrev d : Setting
  d = pasts script c

  -- The action that a line binds its variable to is at the node that the line names.
  asked_for : (x : Name) (want : Want) → binds_of (take_request d st x want) ≡ Some a
      → IsAskedAt want a
  asked_for x want h =
      unless_binds a (halted_or st (home_node x) (refusal (home_sight d.reading st.running x) x
      want)) (led_asking st (requested d st x want)) (λ is. asked_at script c st x _ _ is) h

  requested_at : (v : Option Name) (want : Want)
      → binds_of (of_variable v (λ x. take_request d st x want)) ≡ Some a
      → IsAskedAt want a
  requested_at v want h =
      variable_binds a v (λ x. take_request d st x want) (λ x is. asked_for x want is) h

  begun_at : (body : Option ℕ) (s : ℕ) → is_node script.nodes s ≡ true
      → binds_of (unless (is_halted st s) (led_creating body st (put d st (Begins s)))) ≡ Some a
      → IsAtNode script.nodes a
  begun_at body s holds h =
      unless_binds a (is_halted st s) (led_creating body st (put d st (Begins s))) (λ is. subst (λ
      (n : ℕ). (1 ≤ n) × (n ≤ script.nodes)) (sym (created_at script c st _ _ is)) (node_within _
      _ holds)) h

  -- another line binds nothing
  bare_unless : (o : Option LineRefusal) (now : Standing)
      → binds_of (unless o (Led now None)) ≡ Some a → IsAtNode script.nodes a
  bare_unless o now h = unless_binds a o (Led now None) (λ is. none _ is) h

  pub binds_at : (before : List Step) (act_is : Act)
      → act_holds script.nodes script.objects (length script.bodies) before act_is ≡ true
      → binds_of (act d script.bodies st act_is) ≡ Some a
      → IsAtNode script.nodes a
  binds_at before (acts.Begin s) holds h = begun_at None s holds h
  binds_at before (acts.Start s body) holds h =
      begun_at (Some body) s (and_parts (is_node script.nodes s) (nat_lt body (length
      script.bodies)) holds).0 h
  binds_at before (acts.Ask p m) holds h =
      subst (λ (n : ℕ). (1 ≤ n) × (n ≤ script.nodes)) (sym (requested_at (variable st.running p)
      (wants.Ask m) h)) (node_within _ _ (and_parts (may_use before uses.Request p) (is_node
      script.nodes m) holds).1)
  binds_at before (acts.Call v x op) holds h =
      absurd (requested_at (variable st.running v) (wants.Call x op) h)
  binds_at before (acts.Commit v value) holds h =
      absurd (requested_at (variable st.running v) (wants.Commit value) h)
  binds_at before (acts.Abort v) holds h =
      absurd (requested_at (variable st.running v) wants.Abort h)
  binds_at before (acts.GiveUp v w) holds h =
      variable_binds a (variable st.running v) (λ x. of_variable (variable st.running w) (λ y.
      take_request d st x (wants.GiveUp y))) (λ x first. variable_binds a (variable st.running w) (λ
      y. take_request d st x (wants.GiveUp y)) (λ y is. absurd (asked_for x (wants.GiveUp y) is))
      first) h
  binds_at before (acts.Go v) holds h =
      variable_binds a (variable st.running v) (λ x. unless (halted_or st (home_node x) (go_refusal
      (home_sight d.reading st.running x) x)) (Led (go d script.bodies st x) None)) (λ x is.
      bare_unless (halted_or st (home_node x) (go_refusal (home_sight d.reading st.running x) x))
      (go d script.bodies st x) is) h
  binds_at before (acts.Deliver k) holds h =
      letter_binds a (letter_of st.running k) (λ l. unless (is_halted st (addressee st l)) (Led
      (deliver d st k l) None)) (λ l is. bare_unless (is_halted st (addressee st l)) (deliver d st k
      l) is) h
  binds_at before (acts.Cut k bytes) holds h =
      letter_binds a (letter_of st.running k) (λ l. unless (is_halted st (addressee st l)) (Led (cut
      d st k bytes l) None)) (λ l is. bare_unless (is_halted st (addressee st l)) (cut d st k bytes
      l) is) h
  binds_at before (acts.Lose k) holds h =
      letter_binds a (letter_of st.running k) (λ l. Led (lose st k) None) (λ l is. none _ is) h
  binds_at before (acts.Restart s) holds h = none _ h
  binds_at before acts.Drain holds h = none _ h
  binds_at before acts.Play holds h = none _ h
  binds_at before (acts.Tell s to) holds h =
      bare_unless (halted_or st s (tell_refusal s to)) (put d st (Tells s to)) h
  binds_at before (acts.Query s v) holds h =
      variable_binds a (variable st.running v) (λ x. unless (halted_or st s (query_refusal
      (d.reading.sight st.running.trace s) (family x))) (Led (put d st (Queries s (family x)))
      None)) (λ x is. bare_unless (halted_or st s (query_refusal (d.reading.sight st.running.trace
      s) (family x))) (put d st (Queries s (family x))) is) h
  binds_at before (acts.Stop s calls) holds h =
      bare_unless (is_halted st s) (record st { turns = Stop s calls ∷ st.turns }) h
