-- Each line of a script spends no more than 82 for each step that it counts.
use Rattle.std.proofs.Common.{◌≡◌, ℕ, ◌+◌, ◌*◌, ◌≤◌, Bool, true, false, List, [], ◌∷◌, ◌++◌, length, Option, Some, None, refl, sym, ap, ◌∙◌, subst, arith}
use Rattle.std.specs.Prelude.{filter, if◌then◌else◌, nat_lt}
use Rattle.std.specs.List.{list_all}
use Rattle.std.proofs.lemmas.Bool.{and_parts}
use Rattle.std.proofs.lemmas.Option.{same_Some}
use Rattle.cam_names.specs.declared.name.Name.{Name}
use Rattle.cam_names.specs.Names.{family, home_node}
use Rattle.cam_event.specs.declared.Deed.{Deed}
use Rattle.cam_event.specs.declared.Deed.TheVariants.{Abort, Commit, Crash, Create, Inform, Secure}
use Rattle.cam_event.specs.declared.Event.{Event}
use Rattle.cam_event.specs.declared.LetterFault.TheVariants.{Short}
use Rattle.cam_event.specs.declared.LetterId.{LetterId}
use Rattle.cam_event.specs.declared.LineRefusal.{LineRefusal}
use Rattle.cam_event.specs.declared.Mark.TheVariants as marks
use Rattle.cam_event.specs.declared.Want.{Want}
use Rattle.cam_event.specs.declared.Want.TheVariants as wants
use Rattle.cam_event.specs.ByPast.{next as next_past}
use Rattle.cam_event.specs.Inputs.{Begins, Input, Queries, Receives, Requests, Restarts, Tells}
use Rattle.cam_event.specs.Readings.{by_pasts}
use Rattle.cam_event.specs.Refusals.{query_refusal, refusal, tell_refusal}
use Rattle.cam_event.specs.Rules.{top_name}
use Rattle.cam_event.specs.Runs.{IsNode}
use Rattle.cam_event.specs.Sights.{Sight}
use Rattle.cam_event.specs.Taken.{is_entered, taken_of}
use Rattle.cam_script.specs.declared.Act.{Act}
use Rattle.cam_script.specs.declared.Act.TheVariants as acts
use Rattle.cam_script.specs.declared.Script.{Script}
use Rattle.cam_script.specs.declared.Step.{Step}
use Rattle.cam_script.specs.Law.{spent_in}
use Rattle.cam_script.specs.SoFar.{Size, cost_at, step_cost}
use Rattle.cam_cut.proofs.NextEvent.{sight_of}
use Rattle.cam_runs.specs.HaltedLines.{act, after_line, cut, halted_or, is_halted, led_creating, lose, of_letter, of_variable, setting, take_request, unless, Passed}
use Rattle.cam_runs.specs.HaltedLines.Passed.{Led, Refused}
use Rattle.cam_runs.specs.HaltedPlaying.{requested}
use Rattle.cam_runs.specs.Halts.{appends, Halting}
use Rattle.cam_runs.specs.InRange.{is_act, is_node, nests_within, IsInRange}
use Rattle.cam_runs.specs.PlaysEnd.{standing_after}
use Rattle.cam_runs.specs.Playing.{go_refusal}
use Rattle.cam_runs.specs.Requests.{asked_in, created_in, home_sight, variable}
use Rattle.cam_runs.specs.Running.{letter_of}
use Rattle.cam_runs.specs.Standing.{addressee, after_input, deliver, ended_halt, made, put, with_mark, Setting, Standing}
use Rattle.cam_wire.specs.OfTrace.{spelling_of}
use Rattle.cam_runs.proofs.Bodies.{node_of_test}
use Rattle.cam_runs.proofs.GivenBodies.{HasCosts}
use Rattle.cam_runs.proofs.HaltedNew.{as_long, longer}
use Rattle.cam_runs.proofs.HaltedPuts.{pasts}
use Rattle.cam_runs.proofs.OneEvent.{first_none}
use Rattle.cam_runs.proofs.RequestsPut.{gift_made}
use Rattle.cam_bounds.proofs.Dues.{given_due, one_given}
use Rattle.cam_bounds.proofs.Inputs.{any_put_spends, deliver_spends, drain_spends, lost_weighs, none_spent, put_spends, put_takes, spends_then, Spends}
use Rattle.cam_bounds.proofs.Plays.{drain_housed, given_housed, go_housed, go_spends, play_housed, play_spends, AreHoused}
use Rattle.cam_bounds.proofs.Requests.{given_events, given_weighs}

not_none : {X : Type 0} (o : Option Name) (b : Name) → o ≡ None → o ≡ Some b → X
not_none None b is at = cc
not_none (Some a) b is at = cc

none_created : (ds : List Deed) → created_in (filter is_entered ds) ≡ None
none_created [] = refl
none_created (Inform s a o ∷ ds) = refl
none_created (Commit a ∷ ds) = refl
none_created (Abort a ∷ ds) = refl
none_created (Secure f s c ∷ ds) = refl
none_created (Crash s ∷ ds) = refl
none_created (_ ∷ ds) = none_created ds

-- The top action that a line creates has its home there.
created_home : (script : Script) (c : Setting) (st : Standing) (s : ℕ) (b : Name)
    → created_in (made st (put (pasts script c) st (Begins s))) ≡ Some b → home_node b ≡ s
created_home script c st s b =
    by (c.halts st.turns s (appends (by_pasts script.objects) t (Begins s)) (c.restarted s))
  where
    t : List Event
    t = st.running.trace

    e : Event
    e = next_past script.objects t (Begins s)

    after_it : Option Bool → Standing
    after_it o =
        after_input c.line (c.restarted s) st s e (appends (by_pasts script.objects) t (Begins s)) o

    g : Sight
    g = sight_of script.objects t (Begins s)

    by : (o : Option Bool) → created_in (made st (after_it o)) ≡ Some b → home_node b ≡ s
    by None at =
        ap (λ (x : Name). home_node x) (sym (same_Some (top_name g) b
        (sym (ap created_in (longer (length t) e.deeds [])
        ∙ ap (λ (ds : List Deed). created_in (ds ++ Create (top_name g) ∷ [])) (first_none t s)) ∙ at)))
    by (Some true) at =
        not_none _ b (ap created_in (longer (length t) (taken_of e).deeds []) ∙ none_created e.deeds) at
    by (Some false) at = not_none _ b (ap created_in (as_long (length t) _ [])) at

module _ (sizes : List Size) (script : Script) (costs : HasCosts sizes script.bodies)
    (range : IsInRange script) where
  abbrev pub Housed : Standing → Type 0
  Housed st = AreHoused st.running.bodies

  -- WHAT A LINE does: it spends so much at most, and each action with a body has its home at a node.
  pub record Goes (k : ℕ) (old new : Standing) : Type 0 where
    pub spends : Spends sizes script k old new
    pub housed : Housed new

  abbrev pub Passes : ℕ → Standing → Passed → Type 0
  Passes k st (Refused refused) = Unit {0}
  Passes k st (Led new binds) = Goes k st new

  unless_passes : (k : ℕ) (st : Standing) (o : Option LineRefusal) (passed : Passed)
      → Passes k st passed → Passes k st (unless o passed)
  unless_passes k st (Some r) passed h = tt
  unless_passes k st None passed h = h

  variable_passes : (k : ℕ) (st : Standing) (o : Option Name) (passed : Name → Passed)
      → ((a : Name) → Passes k st (passed a)) → Passes k st (of_variable o passed)
  variable_passes k st None passed h = tt
  variable_passes k st (Some a) passed h = h a

  letter_passes : (k : ℕ) (st : Standing) (o : Option LetterId) (passed : LetterId → Passed)
      → ((letter : LetterId) → Passes k st (passed letter)) → Passes k st (of_letter o passed)
  letter_passes k st None passed h = tt
  letter_passes k st (Some letter) passed h = h letter

  module _ (c : Setting) (st : Standing) (housed : Housed st) where
    put_goes : (input : Input) → Goes 82 st (put (pasts script c) st input)
    put_goes input = record {
      spends = any_put_spends sizes script c st input;
      housed = subst AreHoused (sym (put_takes (pasts script c) st input).keeps.bodies) housed;
    }

    deliver_goes : (k : ℕ) (letter : LetterId) → Goes 82 st (deliver (pasts script c) st k letter)
    deliver_goes k letter = record {
      spends = deliver_spends sizes script c st k letter;
      housed = (put_goes (Receives letter)).housed;
    }

    cut_goes : (k bytes : ℕ) (letter : LetterId) → Goes 82 st (cut (pasts script c) st k bytes letter)
    cut_goes k bytes letter =
        by (nat_lt bytes (length (spelling_of (by_pasts script.objects) st.running.trace letter)))
      where
        by : (b : Bool)
            → Goes 82 st (if b
            then record st { running = with_mark (marks.Cut c.line k Short bytes) st.running }
            else deliver (pasts script c) st k letter)
        by true = record {
          spends = record { less = omega arith; events = omega arith };
          housed = housed;
        }
        by false = deliver_goes k letter

    lose_goes : (k : ℕ) → Goes 82 st (lose st k)
    lose_goes k = record {
      spends = record {
        less = let weighs = lost_weighs st.running k in omega (arith, weighs);
        events = omega arith;
      };
      housed = housed;
    }

    request_passes : (a : Name) (want : Want) → Passes 82 st (take_request (pasts script c) st a want)
    request_passes a want =
        unless_passes 82 st
        (halted_or st (home_node a) (refusal (home_sight (by_pasts script.objects) st.running a) a want))
        (Led (requested (pasts script c) st a want) (asked_in (made st (requested (pasts script c) st a want))))
        (put_goes (Requests (record { action = a; want = want })))

    -- a top action with a body
    start_passes : (s body : ℕ) → is_node s ≡ true
        → Passes (82 * (1 + cost_at sizes body)) st
        (led_creating (Some body) st (put (pasts script c) st (Begins s)))
    start_passes s body is = record {
      spends = record {
        less = let due = given_due sizes script.bodies costs (Some body) created after in
            let weighs = given_weighs (Some body) created after in
            let less = one.less in
            omega (arith, less, due, weighs, gift);
        events = let same = ap (λ (t : List Event). length t) (given_events (Some body) created after) in
            let events = one.events in omega (arith, events, same);
      };
      housed = given_housed (Some body) created after (put_goes (Begins s)).housed its_home;
    }
      where
        after : Standing
        after = put (pasts script c) st (Begins s)

        created : Option Name
        created = created_in (made st after)

        one : Spends sizes script 1 st after
        one = put_spends sizes script c st (Begins s) 0 (omega arith)

        gift : 82 * gift_made sizes (Some body) created + one_given sizes script.bodies (Some body) created
            ≤ 82 * cost_at sizes body + 1
        gift = by created
          where
            by : (o : Option Name)
                → 82 * gift_made sizes (Some body) o + one_given sizes script.bodies (Some body) o
                ≤ 82 * cost_at sizes body + 1
            by None = omega arith
            by (Some b) = omega arith

        its_home : (b : Name) → created ≡ Some b → IsNode (home_node b)
        its_home b at = subst IsNode (sym (created_home script c st s b at)) (node_of_test s is)

  -- THE LINES
  act_passes : (c : Setting) (st : Standing) (does : Act) → Housed st → is_act script does ≡ true
      → Passes (82 * step_cost sizes does) st (act (pasts script c) script.bodies st does)
  act_passes c st (acts.Begin s) housed is =
      unless_passes 82 st (is_halted st s) _ (put_goes c st housed (Begins s))
  act_passes c st (acts.Start s body) housed is =
      unless_passes (82 * (1 + cost_at sizes body)) st (is_halted st s) _
      (start_passes c st housed s body (and_parts (is_node s) (nests_within script.bodies 8 body) is).0)
  act_passes c st (acts.Ask p m) housed is =
      variable_passes 82 st (variable st.running p) _
      (λ a. request_passes c st housed a (wants.Ask m))
  act_passes c st (acts.Call v x op) housed is =
      variable_passes 82 st (variable st.running v) _
      (λ a. request_passes c st housed a (wants.Call x op))
  act_passes c st (acts.Commit v value) housed is =
      variable_passes 82 st (variable st.running v) _
      (λ a. request_passes c st housed a (wants.Commit value))
  act_passes c st (acts.Abort v) housed is =
      variable_passes 82 st (variable st.running v) _
      (λ a. request_passes c st housed a wants.Abort)
  act_passes c st (acts.GiveUp v w) housed is =
      variable_passes 82 st (variable st.running v) _
      (λ a. variable_passes 82 st (variable st.running w) _
      (λ b. request_passes c st housed a (wants.GiveUp b)))
  act_passes c st (acts.Go v) housed is =
      variable_passes 82 st (variable st.running v) _
      (λ a. unless_passes 82 st
      (halted_or st (home_node a) (go_refusal (home_sight (by_pasts script.objects) st.running a) a)) _
      (record {
        spends = go_spends sizes script costs range c st a housed;
        housed = go_housed sizes script costs range c st a housed;
      }))
  act_passes c st (acts.Deliver k) housed is =
      letter_passes 82 st (letter_of st.running k) _
      (λ letter. unless_passes 82 st (is_halted st (addressee st letter)) _
      (deliver_goes c st housed k letter))
  act_passes c st (acts.Cut k bytes) housed is =
      letter_passes 82 st (letter_of st.running k) _
      (λ letter. unless_passes 82 st (is_halted st (addressee st letter)) _
      (cut_goes c st housed k bytes letter))
  act_passes c st (acts.Lose k) housed is =
      letter_passes 82 st (letter_of st.running k) _ (λ letter. lose_goes c st housed k)
  act_passes c st (acts.Restart s) housed is =
      let one = put_goes c (ended_halt st s) housed (Restarts s) in
      record {
        spends = record { less = one.spends.less; events = one.spends.events };
        housed = one.housed;
      }
  act_passes c st acts.Drain housed is =
      let one = drain_spends sizes script c st in
      record {
        spends = record {
          less = let less = one.less in omega (arith, less);
          events = one.events;
        };
        housed = drain_housed sizes script costs range (pasts script c) st housed;
      }
  act_passes c st acts.Play housed is = record {
    spends = play_spends sizes script costs range c st housed;
    housed = play_housed sizes script costs range c st housed;
  }
  act_passes c st (acts.Tell s to) housed is =
      unless_passes 82 st (halted_or st s (tell_refusal s to)) _ (put_goes c st housed (Tells s to))
  act_passes c st (acts.Query s v) housed is =
      variable_passes 82 st (variable st.running v) _
      (λ a. unless_passes 82 st
      (halted_or st s (query_refusal ((by_pasts script.objects).sight st.running.trace s) (family a))) _
      (put_goes c st housed (Queries s (family a))))
  act_passes c st (acts.Stop s calls) housed is =
      unless_passes 82 st (is_halted st s) _
      (record { spends = record { less = omega arith; events = omega arith }; housed = housed })

  line_goes : (k : ℕ) (st : Standing) (line : ℕ) (passed : Passed) → Housed st → Passes k st passed
      → Goes k st (after_line st line passed)
  line_goes k st line (Refused refused) housed h = record {
    spends = record { less = omega arith; events = omega arith };
    housed = housed;
  }
  line_goes k st line (Led new binds) housed h = record {
    spends = record { less = h.spends.less; events = h.spends.events };
    housed = h.housed;
  }

  -- some steps
  pub steps_go : (halts : Halting) (earlier later : List Step) (st : Standing) → Housed st
      → list_all (λ (step : Step). is_act script step.act) earlier ≡ true
      → Goes (82 * spent_in sizes earlier) st
      (standing_after (by_pasts script.objects) halts script.bodies earlier later st)
  steps_go halts [] later st housed passes =
      record { spends = none_spent sizes script 0 st; housed = housed }
  steps_go halts (step ∷ steps) later st housed passes =
      let c = setting (by_pasts script.objects) halts step (steps ++ later) in
      let both = and_parts (is_act script step.act)
      (list_all (λ (s : Step). is_act script s.act) steps) passes in
      let after = after_line st step.line (act c script.bodies st step.act) in
      let one = line_goes (82 * step_cost sizes step.act) st step.line
      (act c script.bodies st step.act) housed (act_passes c st step.act housed both.0) in
      let rest = steps_go halts steps later after one.housed both.1 in
      let all = spends_then sizes script (82 * step_cost sizes step.act) (82 * spent_in sizes steps)
      st after _ one.spends rest.spends in
      record {
        spends = record {
          less = let less = all.less in omega (arith, less);
          events = all.events;
        };
        housed = rest.housed;
      }
