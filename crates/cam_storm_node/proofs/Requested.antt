-- Whether an action has a request, by what a storm node keeps of it.
use Rattle.std.proofs.Common.{◌≡◌, inl, inr, ℕ, ◌≤◌, true, false, List, length, Option, Some, None, refl, sym, ap, ◌∙◌, subst}
use Rattle.std.proofs.lemmas.Bool.{cases_Bool}
use Rattle.std.specs.BTreeMap.{get}
use Rattle.std.specs.BTreeSet.{contains}
use Rattle.cam_names.specs.declared.name.Name.{Name}
use Rattle.cam_names.specs.Names.{home_node, name_cmp}
use Rattle.cam_event.specs.declared.Want.{Want}
use Rattle.cam_event.specs.Refusals.{refusal}
use Rattle.cam_event.specs.Runs.{IsWant}
use Rattle.cam_event.specs.ByDeltas.{Received}
use Rattle.cam_node.specs.Halting.{IsThrough}
use Rattle.cam_body.specs.declared.Next.{Next}
use Rattle.cam_body.specs.declared.Next.TheVariants as nexts
use Rattle.cam_body.specs.Work.{next as next_of_body}
use Rattle.cam_gen.specs.Storms.{Words, action_number, body_of, objects_of}
use Rattle.cam_storm.specs.Own.{OwnRequest, own_view, sight_at}
use Rattle.cam_storm_node.specs.declared.works.Work.{Work}
use Rattle.cam_storm_node.specs.Works.{IsWanted, view_of}
use Rattle.cam_storm_node.specs.Asking.{asks, is_request}
use Rattle.cam_storm_node.specs.Playing.{StormNodeFields}
use Rattle.cam_storm_node.specs.Following.{Knows}
use Rattle.cam_storm_node.proofs.Played.{named}
use Rattle.cam_storm_node.proofs.Running.{free_runs, may_run}
use Rattle.cam_storm_node.proofs.Requests.{own_request, same_want, stopped_has_none, unseen_has_none}

wanted_is : (n : Next) (w : Want) → IsWanted n (Some w) → n ≡ nexts.Request w
wanted_is (nexts.Request v) w is = cc
wanted_is nexts.Wait w is = cc
wanted_is nexts.Over w is = cc

none_is_some : {X : Type 0} (x : X) → None ≡ Some x → ⊥
none_is_some x e = cc

module _ (words : Words) (s : ℕ) (own : List Received) (a : Name) (work : Work)
    (storm_node : StormNodeFields) (knows : Knows words s own storm_node)
    (found : get name_cmp storm_node.works.works a ≡ Some work) where
  next_is : home_node a ≡ s → action_number a ≤ 64
      → next_of_body work.body work.view ≡ next_of_body (body_of words a) (own_view own a)
  next_is home few =
      let view : work.view ≡ own_view own a =
      sym (ap view_of found) ∙ knows.seen.views a (named s a home knows.low) in
      λ i. next_of_body (knows.seen.bodies a work found few i) (view i)

  next_asked : (w : Want) → IsWanted (next_of_body work.body work.view) (Some w) → home_node a ≡ s
      → action_number a ≤ 64
      → next_of_body (body_of words a) (own_view own a) ≡ nexts.Request w
  next_asked w is home few =
      sym (next_is home few) ∙ wanted_is (next_of_body work.body work.view) w is

  -- nothing stands against a request of an action that was created alone
  few : (want : Want) → refusal (sight_at words s own) a want ≡ None → action_number a ≤ 64
  few want allowed = knows.few a (free_runs words s own a want allowed).is_created

  -- it asks for nothing
  pub none_wanted : IsWanted (next_of_body work.body work.view) None → (want : Want)
      → OwnRequest words s own a want → ⊥
  none_wanted is want request =
      none_is_some want
      (subst (λ (n : Next). IsWanted n None)
      (next_is request.drives.here (few want request.allowed) ∙ request.drives.next) is)

  -- it was stopped
  pub stopped_here : contains name_cmp storm_node.works.stopped a ≡ true → (want : Want)
      → OwnRequest words s own a want → ⊥
  stopped_here is want request =
      stopped_has_none words s own a want (sym (knows.seen.stopped a) ∙ is) request

  -- its home is another node
  pub elsewhere : (home_node a ≡ s → ⊥) → (want : Want) → OwnRequest words s own a want → ⊥
  elsewhere away want request = away request.drives.here

  module _ (w : Want) (is : IsWanted (next_of_body work.body work.view) (Some w)) where
    same : (want : Want) → OwnRequest words s own a want → want ≡ w
    same want request =
        same_want words s own a w want
        (next_asked w is request.drives.here (few want request.allowed)) request

    -- what it asks for is not in range, or something stands against it
    pub out_of_range : (IsWant (objects_of words) w → ⊥) → (want : Want)
        → OwnRequest words s own a want → ⊥
    out_of_range unfit want request =
        unfit (subst (IsWant (objects_of words)) (same want request) request.fits)

    pub stands_against : (refusal (sight_at words s own) a w ≡ None → ⊥) → (want : Want)
        → OwnRequest words s own a want → ⊥
    stands_against against want request =
        against (subst (λ (v : Want). refusal (sight_at words s own) a v ≡ None) (same want request)
        request.allowed)

    -- it has the request
    pub has_it : home_node a ≡ s → contains name_cmp storm_node.works.stopped a ≡ false
        → IsWant (objects_of words) w → refusal (sight_at words s own) a w ≡ None
        → OwnRequest words s own a w
    has_it home free fits allowed =
        own_request words s own a w
        (subst (λ (n : ℕ). IsThrough (objects_of words) n own) knows.number knows.node.through) home
        (sym (knows.seen.stopped a) ∙ free) (next_asked w is home (few w allowed)) allowed fits

-- an action without a work has none
pub no_work : (words : Words) (s : ℕ) (own : List Received) (a : Name)
    (storm_node : StormNodeFields) → Knows words s own storm_node
    → get name_cmp storm_node.works.works a ≡ None → (want : Want)
    → OwnRequest words s own a want → ⊥
no_work words s own a storm_node knows none want request =
    unseen_has_none words s own a want
    (sym (knows.seen.views a (named s a request.drives.here knows.low)) ∙ ap view_of none) request

-- an action that has a request is one of those that may have one
pub has_asked : (words : Words) (s : ℕ) (own : List Received) (a : Name) (want : Want)
    (storm_node : StormNodeFields) → Knows words s own storm_node
    → OwnRequest words s own a want → contains name_cmp storm_node.works.asking a ≡ true
has_asked words s own a want storm_node knows request =
    by (get name_cmp storm_node.works.works a) refl
  where
    low : 1 ≤ length a
    low = named s a request.drives.here knows.low

    free : contains name_cmp storm_node.works.stopped a ≡ false
    free =
        elim (cases_Bool (contains name_cmp storm_node.works.stopped a)) [
          | inl is ↦
              absurd (stopped_has_none words s own a want (sym (knows.seen.stopped a) ∙ is) request)
          | inr other ↦ other
        ]

    by : (o : Option Work) → get name_cmp storm_node.works.works a ≡ o
        → contains name_cmp storm_node.works.asking a ≡ true
    by None none = absurd (no_work words s own a storm_node knows none want request)
    by (Some work) found =
        knows.asked a low free
        (may_run words s own a want request.drives.here request.allowed)
        (free_runs words s own a want request.allowed).is_created
        (ap asks found
        ∙ ap is_request
        (next_is words s own a work storm_node knows found request.drives.here
        (few words s own a work storm_node knows found want request.allowed)
        ∙ request.drives.next))
