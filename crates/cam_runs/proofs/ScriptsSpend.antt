-- After each line of a script no more requests are left of its bodies than its lines so far have cost.
use Rattle.std.proofs.Common.{ℕ, ◌+◌, ◌≤◌, Bool, true, false, List, [], ◌∷◌, ◌++◌, length, Option, Some, None, arith}
use Rattle.std.specs.Prelude.{if◌then◌else◌, nat_lt}
use Rattle.cam_names.specs.declared.name.Name.{Name}
use Rattle.cam_names.specs.Names.{home_node, family}
use Rattle.cam_event.specs.declared.LetterFault.TheVariants.{Short}
use Rattle.cam_event.specs.declared.LetterId.{LetterId}
use Rattle.cam_event.specs.declared.LineRefusal.{LineRefusal}
use Rattle.cam_event.specs.declared.Mark.TheVariants as marks
use Rattle.cam_event.specs.declared.Want.{Want}
use Rattle.cam_event.specs.declared.Want.TheVariants as wants
use Rattle.cam_event.specs.Inputs.{Begins, Queries, Requests, Restarts, Tells}
use Rattle.cam_event.specs.Readings.{by_pasts}
use Rattle.cam_event.specs.Refusals.{query_refusal, refusal, tell_refusal}
use Rattle.cam_script.specs.declared.Act.{Act}
use Rattle.cam_script.specs.declared.Act.TheVariants as acts
use Rattle.cam_script.specs.declared.Script.{Script}
use Rattle.cam_script.specs.declared.Step.{Step}
use Rattle.cam_script.specs.SoFar.{Size, cost_at, step_cost}
use Rattle.cam_script.specs.Law.{spent_in}
use Rattle.cam_runs.specs.HaltedLines.{act, after_line, cut, halted_or, is_halted, led_creating, lose, of_letter, of_variable, setting, take_request, unless, Passed}
use Rattle.cam_runs.specs.HaltedLines.Passed.{Refused, Led}
use Rattle.cam_runs.specs.HaltedPlaying.{given_body, go, play, requested}
use Rattle.cam_runs.specs.Halts.{Halting}
use Rattle.cam_runs.specs.PlaysEnd.{standing_after}
use Rattle.cam_runs.specs.Playing.{go_refusal}
use Rattle.cam_runs.specs.Requests.{asked_in, created_in, home_sight, variable}
use Rattle.cam_wire.specs.OfTrace.{spelling_of}
use Rattle.cam_runs.specs.Running.{letter_of}
use Rattle.cam_runs.specs.Standing.{addressee, deliver, drain, ended_halt, made, put, with_mark, Setting, Standing}
use Rattle.cam_runs.proofs.HaltedPuts.{pasts}
use Rattle.cam_runs.proofs.LinesSpend.{all_left}
use Rattle.cam_runs.proofs.RequestsKept.{no_more}
use Rattle.cam_runs.proofs.GivenBodies.{HasCosts}
use Rattle.cam_runs.proofs.PlaysSpend.{deliver_spends, drain_spends, given_least, go_spends, put_spends, rounds_spend}

module _ (sizes : List Size) (script : Script) (costs : HasCosts sizes script.bodies) where
  abbrev pub left : Standing → ℕ
  left st = all_left sizes script.bodies st

  -- WHAT A LINE COMES TO adds no more than this.
  abbrev pub AddsMost : ℕ → Standing → Passed → Type 0
  AddsMost k st (Refused refused) = Unit {0}
  AddsMost k st (Led new binds) = left new ≤ left st + k

  led_most : (k : ℕ) (st new : Standing) → left new ≤ left st → left new ≤ left st + k
  led_most k st new h = omega (arith, h)

  unless_most : (k : ℕ) (st : Standing) (o : Option LineRefusal) (passed : Passed)
      → AddsMost k st passed → AddsMost k st (unless o passed)
  unless_most k st (Some r) passed h = tt
  unless_most k st None passed h = h

  variable_most : (k : ℕ) (st : Standing) (o : Option Name) (passed : Name → Passed)
      → ((a : Name) → AddsMost k st (passed a)) → AddsMost k st (of_variable o passed)
  variable_most k st None passed h = tt
  variable_most k st (Some a) passed h = h a

  letter_most : (k : ℕ) (st : Standing) (o : Option LetterId) (passed : LetterId → Passed)
      → ((letter : LetterId) → AddsMost k st (passed letter)) → AddsMost k st (of_letter o passed)
  letter_most k st None passed h = tt
  letter_most k st (Some letter) passed h = h letter

  request_most : (c : Setting) (st : Standing) (a : Name) (want : Want)
      → AddsMost 1 st (take_request c st a want)
  request_most c st a want =
      unless_most 1 st (halted_or st (home_node a) (refusal (home_sight c.reading st.running a) a want))
      (Led (requested c st a want) (asked_in (made st (requested c st a want))))
      (led_most 1 st (requested c st a want)
      (put_spends sizes script costs c st (Requests (record { action = a; want = want }))))

  start_most : (c : Setting) (st : Standing) (s body : ℕ)
      → AddsMost (1 + cost_at sizes body) st
      (led_creating (Some body) st (put c st (Begins s)))
  start_most c st s body = by (created_in (made st after))
    where
      after : Standing
      after = put c st (Begins s)

      by : (o : Option Name)
          → left (given_body (Some body) o after) ≤ left st + (1 + cost_at sizes body)
      by None = led_most (1 + cost_at sizes body) st after (put_spends sizes script costs c st (Begins s))
      by (Some b) =
          let most = given_least sizes script costs body b after in
          let less = put_spends sizes script costs c st (Begins s) in
          omega (arith, most, less)

  cut_most : (c : Setting) (st : Standing) (k bytes : ℕ) (letter : LetterId)
      → left (cut c st k bytes letter) ≤ left st
  cut_most c st k bytes letter =
      by (nat_lt bytes (length (spelling_of c.reading st.running.trace letter)))
    where
      by : (b : Bool)
          → left (if b
          then record st { running = with_mark (marks.Cut c.line k Short bytes) st.running }
          else deliver c st k letter) ≤ left st
      by true = no_more (left st)
      by false = deliver_spends sizes script costs c st k letter

  act_most : (c : Setting) (st : Standing) (does : Act)
      → AddsMost (step_cost sizes does) st (act (pasts script c) script.bodies st does)
  act_most c st (acts.Begin s) =
      unless_most 1 st (is_halted st s) _
      (led_most 1 st (put (pasts script c) st (Begins s)) (put_spends sizes script costs (pasts script c) st (Begins s)))
  act_most c st (acts.Start s body) =
      unless_most (1 + cost_at sizes body) st (is_halted st s) _
      (start_most (pasts script c) st s body)
  act_most c st (acts.Ask p m) =
      variable_most 1 st (variable st.running p) _
      (λ a. request_most (pasts script c) st a (wants.Ask m))
  act_most c st (acts.Call v x op) =
      variable_most 1 st (variable st.running v) _
      (λ a. request_most (pasts script c) st a (wants.Call x op))
  act_most c st (acts.Commit v value) =
      variable_most 1 st (variable st.running v) _
      (λ a. request_most (pasts script c) st a (wants.Commit value))
  act_most c st (acts.Abort v) =
      variable_most 1 st (variable st.running v) _
      (λ a. request_most (pasts script c) st a wants.Abort)
  act_most c st (acts.GiveUp v w) =
      variable_most 1 st (variable st.running v) _
      (λ a. variable_most 1 st (variable st.running w) _
      (λ b. request_most (pasts script c) st a (wants.GiveUp b)))
  act_most c st (acts.Go v) =
      variable_most 1 st (variable st.running v) _
      (λ a. unless_most 1 st
      (halted_or st (home_node a) (go_refusal (home_sight (by_pasts script.objects) st.running a) a)) _
      (led_most 1 st (go (pasts script c) script.bodies st a) (go_spends sizes script costs c st a)))
  act_most c st (acts.Deliver k) =
      letter_most 1 st (letter_of st.running k) _
      (λ letter. unless_most 1 st (is_halted st (addressee st letter)) _
      (led_most 1 st (deliver (pasts script c) st k letter) (deliver_spends sizes script costs (pasts script c) st k letter)))
  act_most c st (acts.Cut k bytes) =
      letter_most 1 st (letter_of st.running k) _
      (λ letter. unless_most 1 st (is_halted st (addressee st letter)) _
      (led_most 1 st (cut (pasts script c) st k bytes letter)
      (cut_most (pasts script c) st k bytes letter)))
  act_most c st (acts.Lose k) =
      letter_most 1 st (letter_of st.running k) _
      (λ letter. led_most 1 st (lose st k) (no_more (left st)))
  act_most c st (acts.Restart s) =
      led_most 1 st (put (pasts script c) (ended_halt st s) (Restarts s))
      (put_spends sizes script costs (pasts script c) (ended_halt st s) (Restarts s))
  act_most c st acts.Drain = led_most 1 st (drain (pasts script c) st) (drain_spends sizes script costs (pasts script c) st)
  act_most c st acts.Play =
      led_most 1 st (play (pasts script c) script.bodies st) (rounds_spend sizes script costs c 514 st)
  act_most c st (acts.Tell s to) =
      unless_most 1 st (halted_or st s (tell_refusal s to)) _
      (led_most 1 st (put (pasts script c) st (Tells s to)) (put_spends sizes script costs (pasts script c) st (Tells s to)))
  act_most c st (acts.Query s v) =
      variable_most 1 st (variable st.running v) _
      (λ a. unless_most 1 st
      (halted_or st s (query_refusal ((by_pasts script.objects).sight st.running.trace s) (family a))) _
      (led_most 1 st (put (pasts script c) st (Queries s (family a)))
      (put_spends sizes script costs (pasts script c) st (Queries s (family a)))))
  act_most c st (acts.Stop s calls) =
      unless_most 1 st (is_halted st s) _ (led_most 1 st st (no_more (left st)))

  line_most : (k : ℕ) (st : Standing) (line : ℕ) (passed : Passed) → AddsMost k st passed
      → left (after_line st line passed) ≤ left st + k
  line_most k st line (Refused refused) h = led_most k st st (no_more (left st))
  line_most k st line (Led new binds) h = h

  -- after some steps
  pub steps_spend : (halts : Halting) (earlier later : List Step) (st : Standing)
      → left (standing_after (by_pasts script.objects) halts script.bodies earlier later st)
      ≤ left st + spent_in sizes earlier
  steps_spend halts [] later st = led_most 0 st st (no_more (left st))
  steps_spend halts (step ∷ steps) later st =
      let c = setting (by_pasts script.objects) halts step (steps ++ later) in
      let after = after_line st step.line (act c script.bodies st step.act) in
      let one = line_most (step_cost sizes step.act) st step.line (act c script.bodies st step.act)
      (act_most c st step.act) in
      let rest = steps_spend halts steps later after in
      by (left st) (left after) (step_cost sizes step.act) (spent_in sizes steps) _ one rest
    where
      by : (a b k s last : ℕ) → b ≤ a + k → last ≤ b + s → last ≤ a + (k + s)
      by a b k s last p q = omega (arith, p, q)
