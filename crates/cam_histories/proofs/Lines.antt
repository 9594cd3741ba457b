-- A line is refused by the first of its tests that fails.
use Rattle.std.proofs.Common.{◌≡◌, ℕ, Option, Some, None, refl}
use Rattle.cam_names.specs.declared.name.Name.{Name}
use Rattle.cam_names.specs.Names.{home_node, family}
use Rattle.cam_event.specs.declared.LetterId.{LetterId}
use Rattle.cam_event.specs.declared.LineRefusal.{LineRefusal}
use Rattle.cam_event.specs.declared.Want.{Want}
use Rattle.cam_event.specs.declared.Want.TheVariants as wants
use Rattle.cam_event.specs.Refusals.{refusal, tell_refusal, query_refusal}
use Rattle.cam_script.specs.declared.Act.TheVariants as acts
use Rattle.cam_runs.specs.Running.{letter_of}
use Rattle.cam_runs.specs.Requests.{home_sight, variable}
use Rattle.cam_runs.specs.Playing.{go_refusal}
use Rattle.cam_runs.specs.Standing.{Standing, Setting, addressee}
use Rattle.cam_runs.specs.HaltedLines.{Passed, Led, unless, of_variable, of_letter, is_halted}
use Rattle.cam_runs.specs.HaltedLines.{halted_or, take_request}
use Rattle.cam_histories.specs.Lines.{refused_by, test_variable, test_letter, test_request}
use Rattle.cam_histories.specs.Lines.{LinesAreTested}

-- one test before what leads on
unless_led : (o : Option LineRefusal) (st : Standing) (binds : Option Name)
    → refused_by (unless o (Led st binds)) ≡ o
unless_led None st binds = refl
unless_led (Some r) st binds = refl

-- the test of a variable before others, and that of a letter
variable_first : (o : Option Name) (line : Name → Passed) (test : Name → Option LineRefusal)
    → ((a : Name) → refused_by (line a) ≡ test a)
    → refused_by (of_variable o line) ≡ test_variable o test
variable_first None line test same = refl
variable_first (Some a) line test same = same a

letter_first : (o : Option LetterId) (line : LetterId → Passed)
    (test : LetterId → Option LineRefusal)
    → ((l : LetterId) → refused_by (line l) ≡ test l)
    → refused_by (of_letter o line) ≡ test_letter o test
letter_first None line test same = refl
letter_first (Some l) line test same = same l

module _ (c : Setting) (st : Standing) where
  request_tested : (v : ℕ) (want : Want)
      → refused_by (of_variable (variable st.running v) (λ a. take_request c st a want))
      ≡ test_variable (variable st.running v) (λ a. test_request c.reading st a want)
  request_tested v want =
      variable_first (variable st.running v) (λ a. take_request c st a want)
      (λ a. test_request c.reading st a want)
      (λ a. unless_led (halted_or st (home_node a)
      (refusal (home_sight c.reading st.running a) a want)) _ _)

pub lines_are_tested : LinesAreTested
lines_are_tested c bodies st (acts.Begin s) = unless_led (is_halted st s) _ _
lines_are_tested c bodies st (acts.Start s body) = unless_led (is_halted st s) _ _
lines_are_tested c bodies st (acts.Ask p m) = request_tested c st p (wants.Ask m)
lines_are_tested c bodies st (acts.Call v x op) = request_tested c st v (wants.Call x op)
lines_are_tested c bodies st (acts.Commit v value) = request_tested c st v (wants.Commit value)
lines_are_tested c bodies st (acts.Abort v) = request_tested c st v wants.Abort
lines_are_tested c bodies st (acts.GiveUp v w) =
    variable_first (variable st.running v) (λ a.
    of_variable (variable st.running w) (λ b. take_request c st a (wants.GiveUp b)))
    (λ a. test_variable (variable st.running w) (λ b. test_request c.reading st a (wants.GiveUp b)))
    (λ a. variable_first (variable st.running w) (λ b. take_request c st a (wants.GiveUp b))
    (λ b. test_request c.reading st a (wants.GiveUp b))
    (λ b. unless_led (halted_or st (home_node a)
    (refusal (home_sight c.reading st.running a) a (wants.GiveUp b))) _ _))
lines_are_tested c bodies st (acts.Go v) =
    variable_first (variable st.running v) (λ a.
    unless (halted_or st (home_node a) (go_refusal (home_sight c.reading st.running a) a))
    (Led _ None))
    (λ a. halted_or st (home_node a) (go_refusal (home_sight c.reading st.running a) a))
    (λ a. unless_led (halted_or st (home_node a) (go_refusal (home_sight c.reading st.running a) a))
    _ _)
lines_are_tested c bodies st (acts.Deliver k) =
    letter_first (letter_of st.running k) (λ l. unless (is_halted st (addressee st l)) (Led _ None))
    (λ l. is_halted st (addressee st l))
    (λ l. unless_led (is_halted st (addressee st l)) _ _)
lines_are_tested c bodies st (acts.Cut k bytes) =
    letter_first (letter_of st.running k) (λ l. unless (is_halted st (addressee st l)) (Led _ None))
    (λ l. is_halted st (addressee st l))
    (λ l. unless_led (is_halted st (addressee st l)) _ _)
lines_are_tested c bodies st (acts.Lose k) = letter_first (letter_of st.running k) (λ l. Led _ None)
    (λ l. None) (λ l. refl)
lines_are_tested c bodies st (acts.Restart s) = refl
lines_are_tested c bodies st acts.Drain = refl
lines_are_tested c bodies st acts.Play = refl
lines_are_tested c bodies st (acts.Tell s to) = unless_led (halted_or st s (tell_refusal s to)) _ _
lines_are_tested c bodies st (acts.Query s v) =
    variable_first (variable st.running v) (λ a.
    unless (halted_or st s (query_refusal (c.reading.sight st.running.trace s) (family a)))
    (Led _ None))
    (λ a. halted_or st s (query_refusal (c.reading.sight st.running.trace s) (family a)))
    (λ a. unless_led (halted_or st s (query_refusal (c.reading.sight st.running.trace s)
    (family a))) _ _)
lines_are_tested c bodies st (acts.Stop s calls) = unless_led (is_halted st s) _ _
