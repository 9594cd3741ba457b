-- The request that an action makes next by its body: nothing stands against it, and it may be put.
use Rattle.std.proofs.Common.{◌≡◌, ℕ, ◌+◌, Bool, false, List, [], Option, Some}
use Rattle.std.proofs.Common.{None}
use Rattle.std.proofs.Common.{refl, sym, ap, ◌∙◌, subst}
use Rattle.cam_names.specs.declared.name.Name.{Name}
use Rattle.cam_names.specs.Names.{home_node}
use Rattle.cam_event.specs.declared.Deed.{Deed}
use Rattle.cam_event.specs.declared.Request.{Request}
use Rattle.cam_event.specs.declared.Want.{Want}
use Rattle.cam_event.specs.Inputs.{Requests}
use Rattle.cam_event.specs.History.{after}
use Rattle.cam_event.specs.Pasts.{plain_all}
use Rattle.cam_event.specs.Readings.{by_pasts, by_knowledge}
use Rattle.cam_event.specs.Refusals.{has_ended, is_not_open, refusal}
use Rattle.cam_event.specs.Sights.{Entry, Sight, own_deeds}
use Rattle.cam_event.proofs.OwnSteps.{entries_same}
use Rattle.cam_agree.proofs.Ran.{ran_holds, ran_informs}
use Rattle.cam_delta.proofs.Addressed.{ran_addressed}
use Rattle.cam_delta.proofs.SameSteps.{nodes_go_by_the_same}
use Rattle.cam_body.specs.declared.Next.TheVariants as nexts
use Rattle.cam_node.specs.declared.Input.TheVariants as inputs
use Rattle.cam_node.specs.Calls.{input_of, mail_of, load_of}
use Rattle.cam_runs.specs.Halts.{Halting}
use Rattle.cam_runs.specs.HaltedPlaying.{go}
use Rattle.cam_runs.specs.Playing.{body_number}
use Rattle.cam_runs.specs.Requests.{asked_in, home_sight}
use Rattle.cam_runs.specs.Running.{has_number}
use Rattle.cam_runs.specs.UnderWay.{Idle, Known}
use Rattle.cam_runs.specs.Standing.{Setting, Standing, made, put}
use Rattle.cam_runs.specs.UnderHalts.{IsUnderHalts}
use Rattle.cam_runs.proofs.BodyRequests.{BodyRequest, body_request_by}
use Rattle.cam_runs.proofs.HaltedEvents.{ran}
use Rattle.cam_runs.proofs.HaltedGoes.{go_both}
use Rattle.cam_runs.proofs.HaltedNew.{asked_new}
use Rattle.cam_runs.proofs.HaltedPuts.{put_both, ready_by}
use Rattle.cam_runs.proofs.Range.{script_in_range}
use Rattle.cam_script.specs.declared.Script.{Script}
use Rattle.cam_script.specs.Law.{IsScript}
use Rattle.cam_histories.specs.InputLaws.{held_setting}
use Rattle.cam_histories.proofs.Stepping.{own_inputs_are_put}
use Rattle.cam_cluster.specs.Goes.{MayGo, next_of}
use Rattle.cam_cluster.specs.Puts.{IsPutAt}

-- a sight of which the node's own deeds alone count
abbrev pub plain_sight : ℕ → List Entry → List Deed → Sight
plain_sight s own first = record {
  node = s;
  deeds = after (own_deeds own) first;
  events = own;
  live = [];
  knows_abort = λ a. false;
  knows_commit = λ a. false;
  known_count = λ m. 1;
  orphan = λ a visited. None;
  deps = λ a. [];
}

module _ (script : Script) (st : Standing) (a : Name) (is : IsScript script)
    (under : IsUnderHalts script st) (may : MayGo script st a) where
  -- the tests say the same by the pasts
  running_by_pasts : has_ended (home_sight (by_pasts script.objects) st.running a) a ≡ None
  running_by_pasts =
      sym (ap (λ g. has_ended g a) (nodes_go_by_the_same script.objects st.running.trace (home_node
      a) (ran_addressed _ _ (ran script st under.run))) ∙ λ i. has_ended (plain_sight (home_node
      a) (entries_same script.objects st.running.trace (home_node a) i) (ran_informs _ _
      (home_node a) None (ran script st under.run) tt i)) a) ∙ may.running

  open_by_pasts : is_not_open (home_sight (by_pasts script.objects) st.running a) a ≡ None
  open_by_pasts =
      sym (ap (λ g. is_not_open g a) (nodes_go_by_the_same script.objects st.running.trace
      (home_node a) (ran_addressed _ _ (ran script st under.run))) ∙ λ i. is_not_open (plain_sight
      (home_node a) (entries_same script.objects st.running.trace (home_node a) i) (ran_informs _
      _ (home_node a) None (ran script st under.run) tt i)) a) ∙ may.is_open

  pub asks_by_body : (want : Want) → next_of script.bodies st a ≡ nexts.Request want
      → BodyRequest script st.running a want
  asks_by_body want e =
      body_request_by _ _ _ _ (script_in_range script is) (ran_holds _ _ (ran script st
      under.run)) under.works running_by_pasts open_by_pasts e

  -- nothing stands against it at its home
  pub asks_freely : (want : Want) → next_of script.bodies st a ≡ nexts.Request want
      → refusal (home_sight (by_knowledge script.objects) st.running a) a want ≡ None
  asks_freely want e =
      ap (λ g. refusal g a want) (nodes_go_by_the_same script.objects st.running.trace (home_node a)
      (ran_addressed _ _ (ran script st under.run))) ∙ (λ i. refusal (plain_sight (home_node a)
      (entries_same script.objects st.running.trace (home_node a) i) (ran_informs _ _ (home_node
      a) None (ran script st under.run) tt i)) a want) ∙ (asks_by_body want e).may.0

  -- the request may be put to its home
  pub request_put : (place : ℕ) (want : Want) → home_node a ≡ place + 1
      → next_of script.bodies st a ≡ nexts.Request want
      → IsPutAt script st place
      (input_of (place + 1) (inputs.Request (record { action = a; want = want })))
      (mail_of (inputs.Request (record { action = a; want = want })))
      (load_of (inputs.Request (record { action = a; want = want })))
  request_put place want home e =
      let asks = asks_by_body want e in
      let request : Request = record { action = a; want = want } in
      record {
        coming = record { may = asks.may; awake = may.awake; idle = λ body at. asks.idle };
        at = home;
        is_put =
            own_inputs_are_put script.objects (has_number st.taken) st.running.trace
            (Requests request) under.run asks.may refl;
      }

  module _ (halts : Halting) (line : ℕ) (restarted : ℕ → Bool) where
    abbrev c : Setting
    c = held_setting script.objects halts line restarted

    pub gone_under : IsUnderHalts script (go c script.bodies st a)
    gone_under =
        let both =
        go_both _ c _ _ (script_in_range script is) under may.awake running_by_pasts
        open_by_pasts in
        subst (IsUnderHalts script) (sym both.same) both.under

    -- a child that the request asks for has no body yet
    pub child_is_bare : (want : Want) (b : Name) → next_of script.bodies st a ≡ nexts.Request want
        → asked_in (made st (put c st (Requests (record { action = a; want = want })))) ≡ Some b
        → body_number st.running.bodies b ≡ None
    child_is_bare want b e asked =
        let asks = asks_by_body want e in
        let request : Request = record { action = a; want = want } in
        let both =
        put_both script c st (Requests request)
        (ready_by script st (Requests request) under may.awake asks.may (λ n m at same.
        subst (λ (x : Name). Idle (plain_all st.running.trace) x) (sym same) asks.idle)) in
        let new =
        asked_new script c st request b under asks.may
        (ap (λ (x : Standing). asked_in (made st x)) (sym both.same) ∙ asked) in
        by (body_number st.running.bodies b) refl new.0.fresh
      where
        by : (o : Option ℕ) → body_number st.running.bodies b ≡ o → (Known (plain_all
            st.running.trace) b → ⊥) → body_number st.running.bodies b ≡ None
        by None at fresh = at
        by (Some m) at fresh = absurd (fresh (under.works b m at).known)
