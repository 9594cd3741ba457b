-- Lines that give no action a body leave the bodies that were given.
use Rattle.std.proofs.Common.{◌≡◌, ℕ, zero, suc, Bool, true, false, if◌then◌else◌, List, length}
use Rattle.std.proofs.Common.{Option, Some, None, refl, ◌∙◌}
use Rattle.std.specs.Prelude.{nat_lt}
use Rattle.cam_names.specs.declared.name.Name.{Name}
use Rattle.cam_names.specs.Names.{family, home_node}
use Rattle.cam_event.specs.declared.Event.{Event}
use Rattle.cam_event.specs.declared.LetterFault.TheVariants.{Short}
use Rattle.cam_event.specs.declared.LetterId.{LetterId}
use Rattle.cam_event.specs.declared.LineRefusal.{LineRefusal}
use Rattle.cam_event.specs.declared.Mark.TheVariants as marks
use Rattle.cam_event.specs.declared.Want.{Want}
use Rattle.cam_event.specs.declared.Want.TheVariants as wants
use Rattle.cam_event.specs.Inputs.{Begins, Input, Queries, Receives, Requests, Restarts, Tells}
use Rattle.cam_event.specs.Inputs.{node_of}
use Rattle.cam_event.specs.Refusals.{query_refusal, refusal, tell_refusal}
use Rattle.cam_runs.specs.Halts.{appends}
use Rattle.cam_runs.specs.HaltedLines.{Led, Passed, act, after_line, cut, halted_or, is_halted}
use Rattle.cam_runs.specs.HaltedLines.{led_asking, led_creating, lose, of_letter, of_variable}
use Rattle.cam_runs.specs.HaltedLines.{take_request, unless}
use Rattle.cam_runs.specs.HaltedPlaying.{requested}
use Rattle.cam_runs.specs.Requests.{home_sight, variable}
use Rattle.cam_runs.specs.Running.{letter_of, waiting_weight}
use Rattle.cam_runs.specs.Standing.{Setting, Standing, addressee, after_input, deliver}
use Rattle.cam_runs.specs.Standing.{deliver_waiting, deliveries, ended_halt, put, waiting}
use Rattle.cam_runs.specs.Standing.{with_mark}
use Rattle.cam_script.specs.declared.Act.{Act}
use Rattle.cam_script.specs.declared.Act.TheVariants as acts
use Rattle.cam_script.specs.declared.Statement.{Statement}
use Rattle.cam_wire.specs.OfTrace.{spelling_of}

-- a line that gives no action a body, whatever it comes to
abbrev pub GivesNone : Act → Type 0
GivesNone (acts.Start s body) = ⊥
GivesNone (acts.Go v) = ⊥
GivesNone acts.Play = ⊥
GivesNone _ = Unit {0}

after_input_stays : (line : ℕ) (again : Bool) (st : Standing) (s : ℕ) (e : Event) (w : Bool)
    (o : Option Bool) → (after_input line again st s e w o).running.bodies ≡ st.running.bodies
after_input_stays line again st s e w None = refl
after_input_stays line again st s e w (Some true) = refl
after_input_stays line again st s e w (Some false) = refl

pub put_stays : (c : Setting) (st : Standing) (input : Input)
    → (put c st input).running.bodies ≡ st.running.bodies
put_stays c st input =
    let t = st.running.trace in
    let s : ℕ = node_of t input in
    after_input_stays c.line (c.restarted s) st s (c.reading.next t input)
    (appends c.reading t input) (c.halts st.turns s (appends c.reading t input) (c.restarted s))

waiting_stays : (c : Setting) (st : Standing) (w : Option (ℕ × LetterId))
    → (deliver_waiting c st w).running.bodies ≡ st.running.bodies
waiting_stays c st None = refl
waiting_stays c st (Some w) = put_stays c st (Receives w.1)

pub deliveries_stay : (c : Setting) (n : ℕ) (st : Standing)
    → (deliveries c n st).running.bodies ≡ st.running.bodies
deliveries_stay c zero st = refl
deliveries_stay c (suc n) st =
    deliveries_stay c n (deliver_waiting c st (waiting st)) ∙ waiting_stays c st (waiting st)

module _ (c : Setting) (bodies : List (List Statement)) (st : Standing) (line : ℕ) where
  abbrev Stay : Passed → Type 0
  Stay passed = (after_line st line passed).running.bodies ≡ st.running.bodies

  unless_stays : (o : Option LineRefusal) (passed : Passed) → Stay passed → Stay (unless o passed)
  unless_stays (Some refusal) passed so = refl
  unless_stays None passed so = so

  variable_stays : (o : Option Name) (line_is : Name → Passed)
      → ((a : Name) → Stay (line_is a)) → Stay (of_variable o line_is)
  variable_stays (Some a) line_is so = so a
  variable_stays None line_is so = refl

  letter_stays : (o : Option LetterId) (line_is : LetterId → Passed)
      → ((l : LetterId) → Stay (line_is l)) → Stay (of_letter o line_is)
  letter_stays (Some l) line_is so = so l
  letter_stays None line_is so = refl

  request_stays : (a : Name) (want : Want) → Stay (take_request c st a want)
  request_stays a want =
      unless_stays
      (halted_or st (home_node a) (refusal (home_sight c.reading st.running a) a want))
      (led_asking st (requested c st a want))
      (put_stays c st (Requests (record { action = a; want = want })))

  of_variable_stays : (v : ℕ) (want : Want)
      → Stay (of_variable (variable st.running v) (λ a. take_request c st a want))
  of_variable_stays v want =
      variable_stays (variable st.running v) (λ a. take_request c st a want)
      (λ a. request_stays a want)

  cut_stays : (k bytes : ℕ) (l : LetterId)
      → (cut c st k bytes l).running.bodies ≡ st.running.bodies
  cut_stays k bytes l =
      by (nat_lt bytes (length (spelling_of c.reading st.running.trace l)))
    where
      short : Standing
      short = record st { running = with_mark (marks.Cut c.line k Short bytes) st.running }

      by : (b : Bool)
          → (if b then short else deliver c st k l).running.bodies ≡ st.running.bodies
      by true = refl
      by false = put_stays c st (Receives l)

  pub bodies_stay : (does : Act) → GivesNone does → Stay (act c bodies st does)
  bodies_stay (acts.Begin s) none =
      unless_stays (is_halted st s) (led_creating None st (put c st (Begins s)))
      (put_stays c st (Begins s))
  bodies_stay (acts.Start s body) none = elim none [ ]
  bodies_stay (acts.Ask p m) none = of_variable_stays p (wants.Ask m)
  bodies_stay (acts.Call v x op) none = of_variable_stays v (wants.Call x op)
  bodies_stay (acts.Commit v value) none = of_variable_stays v (wants.Commit value)
  bodies_stay (acts.Abort v) none = of_variable_stays v wants.Abort
  bodies_stay (acts.GiveUp v w) none =
      variable_stays (variable st.running v)
      (λ a. of_variable (variable st.running w) (λ b. take_request c st a (wants.GiveUp b)))
      (λ a. variable_stays (variable st.running w) (λ b. take_request c st a (wants.GiveUp b))
      (λ b. request_stays a (wants.GiveUp b)))
  bodies_stay (acts.Go v) none = elim none [ ]
  bodies_stay (acts.Deliver k) none =
      letter_stays (letter_of st.running k)
      (λ l. unless (is_halted st (addressee st l)) (Led (deliver c st k l) None))
      (λ l. unless_stays (is_halted st (addressee st l)) (Led (deliver c st k l) None)
      (put_stays c st (Receives l)))
  bodies_stay (acts.Cut k bytes) none =
      letter_stays (letter_of st.running k)
      (λ l. unless (is_halted st (addressee st l)) (Led (cut c st k bytes l) None))
      (λ l. unless_stays (is_halted st (addressee st l)) (Led (cut c st k bytes l) None)
      (cut_stays k bytes l))
  bodies_stay (acts.Lose k) none =
      letter_stays (letter_of st.running k) (λ l. Led (lose st k) None) (λ l. refl)
  bodies_stay (acts.Restart s) none = put_stays c (ended_halt st s) (Restarts s)
  bodies_stay acts.Drain none = deliveries_stay c (waiting_weight st.running) st
  bodies_stay acts.Play none = elim none [ ]
  bodies_stay (acts.Tell s to) none =
      unless_stays (halted_or st s (tell_refusal s to)) (Led (put c st (Tells s to)) None)
      (put_stays c st (Tells s to))
  bodies_stay (acts.Query s v) none =
      variable_stays (variable st.running v)
      (λ a. unless (halted_or st s (query_refusal (c.reading.sight st.running.trace s) (family a)))
      (Led (put c st (Queries s (family a))) None))
      (λ a. unless_stays
      (halted_or st s (query_refusal (c.reading.sight st.running.trace s) (family a)))
      (Led (put c st (Queries s (family a))) None) (put_stays c st (Queries s (family a))))
  bodies_stay (acts.Stop s calls) none =
      unless_stays (is_halted st s) _ refl
