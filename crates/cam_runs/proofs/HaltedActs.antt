-- Each line of a script in whose run nodes halt: what it leads to is under way, and the same by both readings.
use Rattle.std.proofs.Common.{◌≡◌, true, not, ◌∷◌, None, refl, ap}
use Rattle.std.proofs.lemmas.Bool.{and_parts}
use Rattle.cam_names.specs.Names.{family, home_node}
use Rattle.cam_event.specs.declared.Want.TheVariants as wants
use Rattle.cam_event.specs.Inputs.{Tells, Queries, Restarts}
use Rattle.cam_event.specs.Live.{site_of, is_fit}
use Rattle.cam_event.specs.Refusals.{has_ended, has_call, has_child, is_not_open, first_of_two, tell_refusal, query_refusal}
use Rattle.cam_event.specs.Readings.{by_pasts, by_knowledge}
use Rattle.cam_delta.proofs.SameReadings.{ran_queries}
use Rattle.cam_script.specs.declared.Act.{Act}
use Rattle.cam_script.specs.declared.Act.TheVariants as acts
use Rattle.cam_script.specs.declared.Script.{Script}
use Rattle.cam_runs.specs.Running.{letter_of}
use Rattle.cam_runs.specs.Requests.{home_sight, variable}
use Rattle.cam_runs.specs.Playing.{go_refusal}
use Rattle.cam_runs.specs.InRange.{is_node, nests_within, is_start_act, is_free, is_op, is_act, IsInRange}
use Rattle.cam_runs.specs.Halts.{Stop}
use Rattle.cam_runs.specs.Standing.{Standing, Setting, put, deliver, addressee, drain, ended_halt}
use Rattle.cam_runs.specs.HaltedLines.{Led, unless, of_variable, is_halted, halted_or, take_request, cut, act}
use Rattle.cam_runs.specs.HaltedPlaying.{go, play}
use Rattle.cam_runs.specs.UnderHalts.{IsUnderHalts}
use Rattle.cam_runs.proofs.Bodies.{node_of_test}
use Rattle.cam_runs.proofs.MayAsk.{first_two}
use Rattle.cam_runs.proofs.Delivering.{letter_numbered}
use Rattle.cam_runs.proofs.Lines.{binds_none}
use Rattle.cam_runs.proofs.HaltedEvents.{ran}
use Rattle.cam_runs.proofs.HaltedPuts.{pasts, helds, input_both, deliver_both, drain_both}
use Rattle.cam_runs.proofs.HaltedGoes.{go_both, go_refusal_same, play_both}
use Rattle.cam_runs.proofs.HaltedTests.{request_both, begin_both, start_both, cut_both, restart_both}
use Rattle.cam_runs.proofs.HaltedParts.{BothPassed, led_none, unless_both, variable_both, letter_both, awake_by, bare_at}

-- Each line, with the test that its step passes; another line may use its variable only where it is no start.
pub act_both : (script : Script) (c : Setting) (st : Standing) (does : Act) → IsInRange script → IsUnderHalts script st → is_act script does ≡ true
    → BothPassed script st (not (is_start_act does)) (act (pasts script c) script.bodies st does) (act (helds script c) script.bodies st does)
act_both script c st (acts.Begin s) range under is = begin_both script c st s under (node_of_test s is)
act_both script c st (acts.Start s body) range under is =
    let parts = and_parts (is_node s) (nests_within script.bodies 8 body) is in start_both script c st s body under (node_of_test s parts.0) parts.1
act_both script c st (acts.Ask p m) range under is =
    let parts = and_parts (is_free script p) (is_node m) is in
    variable_both script st true (variable st.running p) (λ a. take_request (pasts script c) st a (wants.Ask m)) (λ a. take_request (helds script c) st a (wants.Ask m)) (λ a at. request_both script c st a (wants.Ask m) under (bare_at script st p a under parts.0 at) (node_of_test m parts.1))
act_both script c st (acts.Call v x op) range under is =
    let parts = and_parts (is_free script v) (is_op script.objects x op) is in
    let fit = and_parts (is_fit script.objects x op) (is_node (site_of script.objects x)) parts.1 in
    variable_both script st true (variable st.running v) (λ a. take_request (pasts script c) st a (wants.Call x op)) (λ a. take_request (helds script c) st a (wants.Call x op)) (λ a at. request_both script c st a (wants.Call x op) under (bare_at script st v a under parts.0 at) (fit.0, node_of_test (site_of script.objects x) fit.1))
act_both script c st (acts.Commit v value) range under is =
    variable_both script st true (variable st.running v) (λ a. take_request (pasts script c) st a (wants.Commit value)) (λ a. take_request (helds script c) st a (wants.Commit value)) (λ a at. request_both script c st a (wants.Commit value) under (bare_at script st v a under is at) tt)
act_both script c st (acts.Abort v) range under is =
    variable_both script st true (variable st.running v) (λ a. take_request (pasts script c) st a wants.Abort) (λ a. take_request (helds script c) st a wants.Abort) (λ a at. request_both script c st a wants.Abort under (bare_at script st v a under is at) tt)
act_both script c st (acts.GiveUp v w) range under is =
    variable_both script st true (variable st.running v) (λ a. of_variable (variable st.running w) (λ b. take_request (pasts script c) st a (wants.GiveUp b))) (λ a. of_variable (variable st.running w) (λ b. take_request (helds script c) st a (wants.GiveUp b))) (λ a at.
    variable_both script st true (variable st.running w) (λ b. take_request (pasts script c) st a (wants.GiveUp b)) (λ b. take_request (helds script c) st a (wants.GiveUp b)) (λ b there. request_both script c st a (wants.GiveUp b) under (bare_at script st v a under is at) tt))
act_both script c st (acts.Go v) range under is =
    variable_both script st true (variable st.running v) (λ a. unless (halted_or st (home_node a) (go_refusal (home_sight (by_pasts script.objects) st.running a) a)) (Led (go (pasts script c) script.bodies st a) None)) (λ a. unless (halted_or st (home_node a) (go_refusal (home_sight (by_knowledge script.objects) st.running a) a)) (Led (go (helds script c) script.bodies st a) None)) (λ a at.
    unless_both script st true (halted_or st (home_node a) (go_refusal (home_sight (by_pasts script.objects) st.running a) a)) (halted_or st (home_node a) (go_refusal (home_sight (by_knowledge script.objects) st.running a) a)) (Led (go (pasts script c) script.bodies st a) None) (Led (go (helds script c) script.bodies st a) None)
    (ap (halted_or st (home_node a)) (go_refusal_same script st a under)) (λ none.
    let g = home_sight (by_pasts script.objects) st.running a in
    let zero_th = first_two (is_halted st (home_node a)) (go_refusal g a) none in
    let one = first_two (has_ended g a) (first_of_two (has_call g a) (first_of_two (has_child g a) (is_not_open g a))) zero_th.1 in
    let two = first_two (has_call g a) (first_of_two (has_child g a) (is_not_open g a)) one.1 in
    let three = first_two (has_child g a) (is_not_open g a) two.1 in
    led_none script st (go (pasts script c) script.bodies st a) (go (helds script c) script.bodies st a) true (go_both script c st a range under (awake_by st (home_node a) zero_th.0) one.0 three.1)))
act_both script c st (acts.Deliver k) range under is =
    letter_both script st true (letter_of st.running k) (λ l. unless (is_halted st (addressee st l)) (Led (deliver (pasts script c) st k l) None)) (λ l. unless (is_halted st (addressee st l)) (Led (deliver (helds script c) st k l) None)) (λ l at.
    unless_both script st true (is_halted st (addressee st l)) (is_halted st (addressee st l)) (Led (deliver (pasts script c) st k l) None) (Led (deliver (helds script c) st k l) None) refl (λ none.
    led_none script st (deliver (pasts script c) st k l) (deliver (helds script c) st k l) true (deliver_both script c st k l under (awake_by st (addressee st l) none) (letter_numbered st.running k l at))))
act_both script c st (acts.Cut k bytes) range under is =
    letter_both script st true (letter_of st.running k) (λ l. unless (is_halted st (addressee st l)) (Led (cut (pasts script c) st k bytes l) None)) (λ l. unless (is_halted st (addressee st l)) (Led (cut (helds script c) st k bytes l) None)) (λ l at.
    unless_both script st true (is_halted st (addressee st l)) (is_halted st (addressee st l)) (Led (cut (pasts script c) st k bytes l) None) (Led (cut (helds script c) st k bytes l) None) refl (λ none.
    led_none script st (cut (pasts script c) st k bytes l) (cut (helds script c) st k bytes l) true (cut_both script c st k bytes l under (awake_by st (addressee st l) none) at)))
act_both script c st (acts.Lose k) range under is =
    letter_both script st true (letter_of st.running k) (λ l. Led (record st { running = record st.running { lost = k ∷ st.running.lost } }) None) (λ l. Led (record st { running = record st.running { lost = k ∷ st.running.lost } }) None) (λ l at.
    record { keeps = (record { run = under.run; below = under.below; waits = under.waits; works = under.works; bound = under.bound; placed = under.placed; decided = under.decided }, refl, λ f. binds_none st.running); same = refl })
act_both script c st (acts.Restart s) range under is =
    led_none script st (put (pasts script c) (ended_halt st s) (Restarts s)) (put (helds script c) (ended_halt st s) (Restarts s)) true (restart_both script c st s under (node_of_test s is))
act_both script c st acts.Drain range under is = led_none script st (drain (pasts script c) st) (drain (helds script c) st) true (drain_both script c st under)
act_both script c st acts.Play range under is = led_none script st (play (pasts script c) script.bodies st) (play (helds script c) script.bodies st) true (play_both script c st range under)
act_both script c st (acts.Tell s to) range under is =
    let parts = and_parts (is_node s) (is_node to) is in
    unless_both script st true (halted_or st s (tell_refusal s to)) (halted_or st s (tell_refusal s to)) (Led (put (pasts script c) st (Tells s to)) None) (Led (put (helds script c) st (Tells s to)) None) refl (λ none.
    let tests = first_two (is_halted st s) (tell_refusal s to) none in
    led_none script st (put (pasts script c) st (Tells s to)) (put (helds script c) st (Tells s to)) true (input_both script c st (Tells s to) under (awake_by st s tests.0) (node_of_test s parts.0, node_of_test to parts.1, tests.1) (λ a asks. asks)))
act_both script c st (acts.Query s v) range under is =
    variable_both script st true (variable st.running v) (λ a. unless (halted_or st s (query_refusal ((by_pasts script.objects).sight st.running.trace s) (family a))) (Led (put (pasts script c) st (Queries s (family a))) None)) (λ a. unless (halted_or st s (query_refusal ((by_knowledge script.objects).sight st.running.trace s) (family a))) (Led (put (helds script c) st (Queries s (family a))) None)) (λ a at.
    unless_both script st true (halted_or st s (query_refusal ((by_pasts script.objects).sight st.running.trace s) (family a))) (halted_or st s (query_refusal ((by_knowledge script.objects).sight st.running.trace s) (family a))) (Led (put (pasts script c) st (Queries s (family a))) None) (Led (put (helds script c) st (Queries s (family a))) None)
    (ap (halted_or st s) (ran_queries script.objects st.running.trace s (family a) (ran script st under.run))) (λ none.
    let tests = first_two (is_halted st s) (query_refusal ((by_pasts script.objects).sight st.running.trace s) (family a)) none in
    led_none script st (put (pasts script c) st (Queries s (family a))) (put (helds script c) st (Queries s (family a))) true (input_both script c st (Queries s (family a)) under (awake_by st s tests.0) (node_of_test s is, tests.1) (λ b asks. asks))))
act_both script c st (acts.Stop s calls) range under is =
    unless_both script st true (is_halted st s) (is_halted st s) (Led (record st { turns = Stop s calls ∷ st.turns }) None) (Led (record st { turns = Stop s calls ∷ st.turns }) None) refl (λ none.
    record { keeps = (record { run = under.run; below = under.below; waits = under.waits; works = under.works; bound = under.bound; placed = under.placed; decided = under.decided }, refl, λ f. binds_none st.running); same = refl })
