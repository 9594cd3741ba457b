-- The home of the action to which a line binds its variable: the node that the line names.
use Rattle.std.proofs.Common.{◌≡◌, ℕ, Bool, true, false, List, [], ◌∷◌, ◌++◌, filter, length}
use Rattle.std.proofs.Common.{Option, Some, None, refl, sym, ap, ◌∙◌}
use Rattle.std.specs.Prelude.{map}
use Rattle.std.proofs.lemmas.Option.{same_Some}
use Rattle.cam_names.specs.declared.name.Name.{Name}
use Rattle.cam_names.specs.Names.{home_node, last_part}
use Rattle.cam_names.specs.Part.{PartFields}
use Rattle.cam_names.specs.Dependencies.{pairs_of}
use Rattle.cam_type.specs.declared.ObjectDecl.{ObjectDecl}
use Rattle.cam_event.specs.declared.Deed.{Deed}
use Rattle.cam_event.specs.declared.Deed.TheVariants.{Commit, Abort, Secure, Inform, Crash}
use Rattle.cam_event.specs.declared.Event.{Event}
use Rattle.cam_know.specs.declared.Reason.{Reason}
use Rattle.cam_know.specs.Known.{nothing}
use Rattle.cam_know.specs.Order.{told_in_order}
use Rattle.cam_event.specs.declared.Want.{Want}
use Rattle.cam_event.specs.declared.Want.TheVariants as wants
use Rattle.cam_event.specs.Inputs.{Input, Begins, Requests, node_of}
use Rattle.cam_event.specs.ByPast.{next, sight}
use Rattle.cam_event.specs.ByDeltas.{as_carried, next_by_deltas, of_node, received_of}
use Rattle.cam_event.specs.ByKnowledge.{held_sight}
use Rattle.cam_event.specs.Readings.{by_knowledge, by_pasts}
use Rattle.cam_event.specs.Rules.{begins, request, stopped_by, top_name, wanted}
use Rattle.cam_event.specs.Sights.{Sight}
use Rattle.cam_event.specs.Taken.{is_entered}
use Rattle.cam_runs.specs.Halts.{appends}
use Rattle.cam_runs.specs.Requests.{asked_in, created_in, newest_deeds}
use Rattle.cam_runs.specs.Standing.{Standing, Setting, after_input, made, put}
use Rattle.cam_runs.proofs.HaltedPuts.{helds, pasts}
use Rattle.cam_runs.proofs.OneEvent.{first_none}
use Rattle.cam_script.specs.declared.Script.{Script}
use Rattle.cam_cluster.proofs.Led.{as_long, longer}

-- What is entered of an event creates no action and asks for none.
entered_only : (ds : List Deed)
    → (asked_in (filter is_entered ds) ≡ None) × (created_in (filter is_entered ds) ≡ None)
entered_only [] = (refl, refl)
entered_only (Inform s a o ∷ ds) = (refl, refl)
entered_only (Commit a ∷ ds) = (refl, refl)
entered_only (Abort a ∷ ds) = (refl, refl)
entered_only (Secure f s c ∷ ds) = (refl, refl)
entered_only (Crash s ∷ ds) = (refl, refl)
entered_only (_ ∷ ds) = entered_only ds

none_bound : {X : Type 0} (o : Option Name) (b : Name) → o ≡ None → o ≡ Some b → X
none_bound None b none some = cc
none_bound (Some a) b none some = cc

-- what was bound by an input, its whole event did
bound_whole : (in_deeds : List Deed → Option Name) → in_deeds [] ≡ None
    → ((ds : List Deed) → in_deeds (filter is_entered ds) ≡ None)
    → (line : ℕ) (again : Bool) (st : Standing) (s : ℕ) (e : Event) (w : Bool) (o : Option Bool)
    (b : Name) → in_deeds (made st (after_input line again st s e w o)) ≡ Some b
    → in_deeds e.deeds ≡ Some b
bound_whole in_deeds no_deeds entered line again st s e w None b h =
    sym (ap in_deeds (longer (length st.running.trace) e.deeds [])) ∙ h
bound_whole in_deeds no_deeds entered line again st s e w (Some true) b h =
    none_bound _ b (ap in_deeds (longer (length st.running.trace) (filter is_entered e.deeds) []) ∙
    entered e.deeds) h
bound_whole in_deeds no_deeds entered line again st s e w (Some false) b h =
    none_bound _ _ (ap in_deeds (as_long (length st.running.trace) (newest_deeds st.running.trace)
    []) ∙ no_deeds) h

-- where a child is that is asked for
abbrev pub IsAskedAt : Want → Name → Type 0
IsAskedAt (wants.Ask m) b = home_node b ≡ m
IsAskedAt _ b = ⊥

last_of_child : (a : List PartFields) (p : PartFields) → last_part (a ++ p ∷ []) ≡ p
last_of_child [] p = refl
last_of_child (q ∷ []) p = refl
last_of_child (q ∷ r ∷ a) p = last_of_child (r ∷ a) p

wanted_asks : (objects : List ObjectDecl) (g : Sight) (a : Name) (want : Want) (b : Name)
    → asked_in (wanted objects g a want).deeds ≡ Some b → IsAskedAt want b
wanted_asks objects g a (wants.Ask m) b h =
    ap home_node (sym (same_Some _ b h)) ∙ ap (λ (p : PartFields). p.node) (last_of_child a _)
wanted_asks objects g a (wants.Call x op) b h = none_bound _ _ refl h
wanted_asks objects g a (wants.Commit value) b h = none_bound _ _ refl h
wanted_asks objects g a wants.Abort b h = none_bound _ _ refl h
wanted_asks objects g a (wants.GiveUp c) b h = none_bound _ _ refl h

request_asks : (objects : List ObjectDecl) (g : Sight) (a : Name) (want : Want) (b : Name)
    → asked_in (request objects g a want).deeds ≡ Some b → IsAskedAt want b
request_asks objects g a want b h = by (g.orphan a (pairs_of (g.deps a))) h
  where
    by : (o : Option Reason) → asked_in (stopped_by a o (wanted objects g a want)).deeds ≡ Some b
        → IsAskedAt want b
    by None k = wanted_asks _ g _ _ _ k
    by (Some reason) k = none_bound _ _ refl k

module _ (script : Script) (c : Setting) (st : Standing) where
  -- the child of an `ask` is at the node that the line names
  pub asked_at : (a : Name) (want : Want) (b : Name)
      → asked_in (made st (put (pasts script c) st (Requests (record { action = a; want = want }))))
      ≡ Some b
      → IsAskedAt want b
  asked_at a want b h =
      request_asks script.objects g a want b (sym (ap (λ (first : List Deed). asked_in (first ++
      (request script.objects g a want).deeds)) (first_none t s)) ∙ bound_whole asked_in refl (λ ds.
      (entered_only ds).0) c.line (c.restarted s) st s (next script.objects t input) (appends
      (by_pasts script.objects) t input) (c.halts st.turns s (appends (by_pasts script.objects) t
      input) (c.restarted s)) _ h)
    where
      input : Input
      input = Requests (record { action = a; want = want })

      t : List Event
      t = st.running.trace

      s : ℕ
      s = node_of t input

      g : Sight
      g = sight script.objects t s None

  -- and so is the top action of a `begin`.
  pub created_at : (s : ℕ) (b : Name)
      → created_in (made st (put (pasts script c) st (Begins s))) ≡ Some b → home_node b ≡ s
  created_at s b h =
      ap home_node (sym (same_Some (top_name g) b (sym (ap (λ (first : List Deed). created_in (first
      ++ (begins g).deeds)) (first_none t s)) ∙ bound_whole created_in refl (λ ds. (entered_only
      ds).1) c.line (c.restarted s) st s (next script.objects t (Begins s)) (appends (by_pasts
      script.objects) t (Begins s)) (c.halts st.turns s (appends (by_pasts script.objects) t (Begins
      s)) (c.restarted s)) _ h)))
    where
      t : List Event
      t = st.running.trace

      g : Sight
      g = sight script.objects t s None

  -- So it is where the node goes by what it holds.
  pub held_asked_at : (a : Name) (want : Want) (b : Name)
      → asked_in (made st (put (helds script c) st (Requests (record { action = a; want = want }))))
      ≡ Some b
      → IsAskedAt want b
  held_asked_at a want b h =
      request_asks script.objects (held_sight script.objects s (map as_carried (of_node (received_of
      script.objects t) s)) (told_in_order nothing)) a want b (bound_whole asked_in refl (λ ds.
      (entered_only ds).0) c.line (c.restarted s) st s (next_by_deltas script.objects t input)
      (appends (by_knowledge script.objects) t input) (c.halts st.turns s (appends (by_knowledge
      script.objects) t input) (c.restarted s)) _ h)
    where
      input : Input
      input = Requests (record { action = a; want = want })

      t : List Event
      t = st.running.trace

      s : ℕ
      s = node_of t input
