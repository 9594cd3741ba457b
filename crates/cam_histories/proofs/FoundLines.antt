-- Each line of two runs whose halts differ at one input.
use Rattle.std.proofs.Common.{◌≡◌, ℕ, Bool, false}
use Rattle.std.proofs.Common.{List, ◌∷◌, Option, Some, None}
use Rattle.std.proofs.Common.{refl, sym, ◌∙◌}
use Rattle.std.proofs.lemmas.Bool.{true≢false, eq-eqb}
use Rattle.cam_names.specs.declared.name.Name.{Name}
use Rattle.cam_names.specs.Names.{home_node, family}
use Rattle.cam_type.specs.declared.ObjectDecl.{ObjectDecl}
use Rattle.cam_event.specs.declared.Deed.{Deed}
use Rattle.cam_event.specs.declared.Event.{Event}
use Rattle.cam_event.specs.declared.LineRefusal.{LineRefusal}
use Rattle.cam_event.specs.declared.Want.TheVariants as wants
use Rattle.cam_event.specs.Inputs.{Begins, Tells, Queries}
use Rattle.cam_event.specs.Readings.{by_knowledge}
use Rattle.cam_event.specs.Refusals.{tell_refusal, query_refusal}
use Rattle.cam_cut.proofs.Places.{AllPlaced}
use Rattle.cam_script.specs.declared.Act.{Act}
use Rattle.cam_script.specs.declared.Act.TheVariants as acts
use Rattle.cam_script.specs.declared.Statement.{Statement}
use Rattle.cam_runs.specs.Requests.{home_sight, variable}
use Rattle.cam_runs.specs.Playing.{go_refusal}
use Rattle.cam_runs.specs.Halts.{Stop, Halting}
use Rattle.cam_runs.specs.Standing.{Standing, Setting, put}
use Rattle.cam_runs.specs.HaltedLines.{Passed, Led, unless, of_variable, is_halted}
use Rattle.cam_runs.specs.HaltedLines.{halted_or, led_creating, take_request, lose}
use Rattle.cam_runs.specs.HaltedLines.{act, is_restart_act}
use Rattle.cam_runs.specs.HaltedPlaying.{go}
use Rattle.cam_runs.proofs.HaltedParts.{awake_by}
use Rattle.cam_runs.proofs.MayAsk.{first_two}
use Rattle.cam_histories.specs.InputLaws.{held_setting}
use Rattle.cam_histories.specs.Found.{DifferAt}
use Rattle.cam_histories.proofs.Beside.{SomeBeyond, Goes}
use Rattle.cam_histories.proofs.FoundEdits.{goes_edit}
use Rattle.cam_histories.proofs.FoundDrains.{drain_goes}
use Rattle.cam_histories.proofs.FoundPlays.{rounds_go}
use Rattle.cam_histories.proofs.FoundPassed.{lose_edits, stop_edits, PassLeads, PassGoes}
use Rattle.cam_histories.proofs.FoundTests.{unless_goes, variable_goes, letter_goes, halted_same}
use Rattle.cam_histories.proofs.FoundTests.{test_same, queries}
use Rattle.cam_histories.proofs.FoundRequests.{creating_goes, plain_goes, request_goes, bound_same}
use Rattle.cam_histories.proofs.FoundRequests.{asking_goes, going_goes}
use Rattle.cam_histories.proofs.FoundLetters.{handed_goes, cut_goes}
use Rattle.cam_histories.proofs.FoundRestarts.{restart_goes}

-- each line
module _ (objects : List ObjectDecl) (losing taking : Halting) (k : ℕ)
    (P : ℕ → List Event → Event → Type 0) (differ : DifferAt k losing taking) (line : ℕ)
    (restarted : ℕ → Bool)
    (F : List Event) (H : List Deed) (placed : AllPlaced objects H F)
    (bodies : List (List Statement)) (st there : Standing) (goes : Goes objects k P st there)
  where
    abbrev one_line : Act → Passed
    one_line does = act (held_setting objects losing line restarted) bodies st does

    abbrev other_line : Act → Passed
    other_line does = act (held_setting objects taking line restarted) bodies there does

    abbrev lost_by : Setting
    lost_by = held_setting objects losing line restarted

    abbrev taken_by : Setting
    taken_by = held_setting objects taking line restarted

    pub act_goes : (does : Act)
        → ((b : SomeBeyond objects k P st there) → is_restart_act b.node does ≡ false)
        → PassLeads F (other_line does) → PassGoes objects k P (one_line does) (other_line does)
    act_goes (acts.Begin s) away leads =
        unless_goes objects k P F (is_halted st s) (is_halted there s)
        (halted_same objects k P F st there s goes)
        (led_creating None st (put lost_by st (Begins s)))
        (led_creating None there (put taken_by there (Begins s))) leads
        (creating_goes objects losing taking k P differ line restarted F H placed bodies st there
        goes
        None s)
    act_goes (acts.Start s body) away leads =
        unless_goes objects k P F (is_halted st s) (is_halted there s)
        (halted_same objects k P F st there s goes)
        (led_creating (Some body) st (put lost_by st (Begins s)))
        (led_creating (Some body) there (put taken_by there (Begins s))) leads
        (creating_goes objects losing taking k P differ line restarted F H placed bodies st there
        goes
        (Some body) s)
    act_goes (acts.Ask v m) away leads =
        asking_goes objects losing taking k P differ line restarted F H placed bodies st there goes
        v
        (wants.Ask m) leads
    act_goes (acts.Call v x op) away leads =
        asking_goes objects losing taking k P differ line restarted F H placed bodies st there goes
        v
        (wants.Call x op) leads
    act_goes (acts.Commit v value) away leads =
        asking_goes objects losing taking k P differ line restarted F H placed bodies st there goes
        v
        (wants.Commit value) leads
    act_goes (acts.Abort v) away leads =
        asking_goes objects losing taking k P differ line restarted F H placed bodies st there goes
        v
        wants.Abort leads
    act_goes (acts.GiveUp v w) away leads =
        variable_goes objects k P F (variable st.running v) (variable there.running v) (bound v)
        (λ a. of_variable (variable st.running w) (λ b. take_request lost_by st a (wants.GiveUp b)))
        (λ a. of_variable (variable there.running w)
        (λ b. take_request taken_by there a (wants.GiveUp b))) leads
        (λ a more.
        variable_goes objects k P F (variable st.running w) (variable there.running w) (bound w)
        (λ b. take_request lost_by st a (wants.GiveUp b))
        (λ b. take_request taken_by there a (wants.GiveUp b)) more
        (λ b. request_goes objects losing taking k P differ line restarted F H placed bodies st
        there
        goes a (wants.GiveUp b)))
      where
        bound : (v : ℕ) → variable there.running v ≡ variable st.running v
        bound = bound_same objects losing taking k P differ line restarted F H placed bodies st
            there
            goes
    act_goes (acts.Go v) away leads =
        variable_goes objects k P F (variable st.running v) (variable there.running v)
        (bound_same objects losing taking k P differ line restarted F H placed bodies st there goes
        v)
        (λ a. unless (halted_or st (home_node a)
        (go_refusal (home_sight (by_knowledge objects) st.running a) a))
        (Led (go lost_by bodies st a) None))
        (λ a. unless (halted_or there (home_node a)
        (go_refusal (home_sight (by_knowledge objects) there.running a) a))
        (Led (go taken_by bodies there a) None)) leads
        (going_goes objects losing taking k P differ line restarted F H placed bodies st there goes)
    act_goes (acts.Deliver number) away leads =
        handed_goes objects losing taking k P differ line restarted F H placed bodies st there goes
        number leads
    act_goes (acts.Cut number bytes) away leads =
        cut_goes objects losing taking k P differ line restarted F H placed bodies st there goes
        number
        bytes leads
    act_goes (acts.Lose number) away leads =
        letter_goes objects k P F st there number goes (λ l. Led (lose st number) None)
        (λ l. Led (lose there number) None) leads (λ before l more. lost) (λ b l more. lost)
      where
        lost : PassGoes objects k P (Led (lose st number) None) (Led (lose there number) None)
        lost = (
          goes_edit objects k P (λ x. lose x number) (lose_edits number) st there goes,
          refl,
        )
    act_goes (acts.Restart m) away leads = (
      restart_goes objects losing taking k P differ line restarted F H placed st there m goes
          (λ b same. true≢false (sym (eq-eqb m b.node (sym same)) ∙ away b)) leads,
      refl,
    )
    act_goes acts.Drain away leads = (
      drain_goes objects losing taking k P differ line restarted F H placed st there goes leads,
      refl,
    )
    act_goes acts.Play away leads = (
      rounds_go objects losing taking k P differ line restarted F H placed bodies 514 st there goes
          leads,
      refl,
    )
    act_goes (acts.Tell s to) away leads =
        unless_goes objects k P F (halted_or st s (tell_refusal s to))
        (halted_or there s (tell_refusal s to))
        (test_same objects k P F st there s (λ x. tell_refusal s to) goes (λ b off. refl))
        (Led (put lost_by st (Tells s to)) None) (Led (put taken_by there (Tells s to)) None) leads
        (λ none. plain_goes objects losing taking k P differ line restarted F H placed bodies st
        there
        goes (Tells s to) (λ p. refl)
        (awake_by st s (first_two (is_halted st s) (tell_refusal s to) none).0))
    act_goes (acts.Query s v) away leads =
        variable_goes objects k P F (variable st.running v) (variable there.running v)
        (bound_same objects losing taking k P differ line restarted F H placed bodies st there goes
        v)
        (λ a. unless (halted_or st s (test st a))
        (Led (put lost_by st (Queries s (family a))) None))
        (λ a. unless (halted_or there s (test there a))
        (Led (put taken_by there (Queries s (family a))) None)) leads
        (λ a more.
        unless_goes objects k P F (halted_or st s (test st a)) (halted_or there s (test there a))
        (test_same objects k P F st there s (λ x. test x a) goes
        (λ b off. queries objects k P st there s (family a) b off))
        (Led (put lost_by st (Queries s (family a))) None)
        (Led (put taken_by there (Queries s (family a))) None) more
        (λ none. plain_goes objects losing taking k P differ line restarted F H placed bodies st
        there
        goes (Queries s (family a)) (λ p. refl)
        (awake_by st s (first_two (is_halted st s) (test st a) none).0)))
      where
        test : Standing → Name → Option LineRefusal
        test x a = query_refusal ((by_knowledge objects).sight x.running.trace s) (family a)
    act_goes (acts.Stop s calls) away leads =
        unless_goes objects k P F (is_halted st s) (is_halted there s)
        (halted_same objects k P F st there s goes)
        (Led (record st { turns = Stop s calls ∷ st.turns }) None)
        (Led (record there { turns = Stop s calls ∷ there.turns }) None) leads
        (λ none more. (
          goes_edit objects k P (λ x. record x { turns = Stop s calls ∷ x.turns })
              (stop_edits s calls) st there goes,
          refl,
        ))
