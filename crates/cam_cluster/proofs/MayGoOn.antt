-- An action runs at its home just where nothing stands there against a request to abort.
use Rattle.std.proofs.Common.{◌≡◌, inl, inr, ℕ, ◌≤◌, Bool, true, false, not, ◌&&◌, List, Option}
use Rattle.std.proofs.Common.{Some, None, refl, sym, ap, ◌∙◌, arith}
use Rattle.std.specs.Prelude.{is_none, nat_lt}
use Rattle.std.proofs.lemmas.Bool.{and_from, and_parts, cases_Bool, eq-eqb, ltb-false, or_parts}
use Rattle.cam_names.specs.declared.name.Name.{Name}
use Rattle.cam_names.specs.Names.{home_count, home_node}
use Rattle.cam_event.specs.declared.Deed.{Deed}
use Rattle.cam_event.specs.declared.LineRefusal.{LineRefusal}
use Rattle.cam_event.specs.declared.LineRefusal.TheVariants as refusals
use Rattle.cam_event.specs.declared.Want.TheVariants as wants
use Rattle.cam_event.specs.ByPast.{sight}
use Rattle.cam_event.specs.History.{count, created, ended}
use Rattle.cam_event.specs.Pasts.{every, plain_all}
use Rattle.cam_event.specs.Readings.{by_knowledge}
use Rattle.cam_event.specs.Refusals.{first_of_two, has_ended, is_not_open, refusal}
use Rattle.cam_event.specs.Sights.{Sight, is_present, present}
use Rattle.cam_event.proofs.OwnSteps.{entries_same}
use Rattle.cam_agree.proofs.Ran.{ran_holds, ran_informs}
use Rattle.cam_cut.proofs.HomeLines.{where_none}
use Rattle.cam_cut.proofs.Holds.{every_part}
use Rattle.cam_cut.proofs.LegalFacts.{created_count}
use Rattle.cam_cut.proofs.Parts.{base_of, with_first}
use Rattle.cam_cut.proofs.Sees.{Sees}
use Rattle.cam_cut.proofs.SeesRun.{sees_so}
use Rattle.cam_delta.proofs.Addressed.{ran_addressed}
use Rattle.cam_delta.proofs.SameSteps.{nodes_go_by_the_same}
use Rattle.cam_runs.specs.Requests.{home_sight}
use Rattle.cam_runs.specs.Standing.{Standing}
use Rattle.cam_runs.specs.UnderHalts.{IsUnderHalts}
use Rattle.cam_runs.proofs.HaltedEvents.{ran}
use Rattle.cam_runs.proofs.MayAsk.{first_two, going}
use Rattle.cam_script.specs.declared.Script.{Script}
use Rattle.cam_cluster.proofs.BodyRequests.{plain_sight}

-- an action that runs by what its home goes by
abbrev pub is_running : Sight → Name → Bool
is_running g a = created g.deeds a && not (ended g.deeds a) && is_present g a

not_false : (b : Bool) → not b ≡ false → b ≡ true
not_false true h = refl
not_false false h = cc

module _ (script : Script) (st : Standing) (a : Name) (under : IsUnderHalts script st) where
  abbrev s : ℕ
  s = home_node a

  abbrev past : Sight
  past = sight script.objects st.running.trace s None

  abbrev known : Sight
  known = home_sight (by_knowledge script.objects) st.running a

  abbrev whole : List Deed
  whole = with_first st.running.trace s None (plain_all st.running.trace)

  sees : Sees script.objects past
      (with_first st.running.trace s None (base_of st.running.trace s None)) whole
  sees =
      sees_so _ _ _ None _ (ran_holds _ _ (ran script st under.run)) tt (every_part _ _ _)

  -- of an action that was created and has not ended the incarnation is the present one
  is_of_present : has_ended past a ≡ None → created past.deeds a ≡ true → is_present past a ≡ true
  is_of_present runs made =
      let parts = or_parts (ended past.deeds a) (nat_lt (home_count a) (present past)) (where_none _
      _ runs) in
      let above : present past ≤ home_count a =
      ltb-false (home_count a) (present past) parts.1 in
      let there : created whole a ≡ true = sym (sees.same_created a refl) ∙ made in
      let below : home_count a ≤ count whole s =
      created_count _ _ _ sees.legal there in
      eq-eqb (home_count a) (present past) (omega (arith, above, below, sees.same_count))

  runs_where_free : refusal past a wants.Abort ≡ None → is_running past a ≡ true
  runs_where_free free =
      let parts = first_two _ _ free in
      let made : created past.deeds a ≡ true =
      not_false _ (where_none _ _ parts.1) in
      let ends = or_parts (ended past.deeds a) (nat_lt (home_count a) (present past)) (where_none _
      _ parts.0) in
      and_from (created past.deeds a && not (ended past.deeds a)) (is_present past a) (and_from
      (created past.deeds a) (not (ended past.deeds a)) made (ap not ends.0)) (is_of_present parts.0
      made)

  free_where_runs : is_running past a ≡ true → refusal past a wants.Abort ≡ None
  free_where_runs runs =
      let first = and_parts (created past.deeds a && not (ended past.deeds a)) (is_present past a)
      runs in
      let second = and_parts (created past.deeds a) (not (ended past.deeds a)) first.0 in
      let none = going past a second.0 (is_false (ended past.deeds a) second.1) first.1 in
      ap (λ o. first_of_two o (is_not_open past a)) none.0 ∙ none.1
    where
      is_false : (b : Bool) → not b ≡ true → b ≡ false
      is_false true h = cc
      is_false false h = refl

  past_running : is_running past a ≡ is_none (refusal past a wants.Abort)
  past_running =
      elim (cases_Bool (is_running past a)) [
        | inl runs ↦ runs ∙ sym (ap is_none (free_where_runs runs))
        | inr not_so ↦ by (refusal past a wants.Abort) refl not_so
      ]
    where
      by : (o : Option LineRefusal) → refusal past a wants.Abort ≡ o
          → is_running past a ≡ false → is_running past a ≡ is_none (refusal past a wants.Abort)
      by None free not_so = runs_where_free free ∙ sym (ap is_none free)
      by (Some why) free not_so = not_so ∙ sym (ap is_none free)

  -- An action runs at its home just where nothing stands there against a request to abort.
  pub known_running : is_running known a ≡ is_none (refusal known a wants.Abort)
  known_running =
      (ap (λ g. is_running g a) (nodes_go_by_the_same script.objects st.running.trace s
      (ran_addressed _ _ (ran script st under.run))) ∙ λ i. is_running (plain_sight s
      (entries_same script.objects st.running.trace s i) (ran_informs _ _ s None (ran script st
      under.run) tt i)) a) ∙ past_running ∙ ap is_none (sym (ap (λ g. refusal g a wants.Abort)
      (nodes_go_by_the_same script.objects st.running.trace s (ran_addressed _ _ (ran script st
      under.run))) ∙ λ i. refusal (plain_sight s (entries_same script.objects st.running.trace s i)
      (ran_informs _ _ s None (ran script st under.run) tt i)) a wants.Abort))
