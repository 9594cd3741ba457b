-- An action of a node has a request just where what a storm node tests says so.
use Rattle.std.proofs.Common.{◌≡◌, inl, inr, ℕ, eqb, Bool, true, false, not, ◌&&◌, if◌then◌else◌}
use Rattle.std.proofs.Common.{List, [], ◌∷◌, ◌++◌, map, Option, None, refl, sym, ◌∙◌, subst}
use Rattle.std.specs.Prelude.{flat_map}
use Rattle.std.specs.List.{list_any}
use Rattle.std.proofs.lemmas.Bool.{true≢false}
use Rattle.cam_names.specs.declared.name.Name.{Name}
use Rattle.cam_names.specs.Names.{name_eq, home_node, home_count}
use Rattle.cam_event.specs.declared.Deed.{Deed}
use Rattle.cam_event.specs.declared.Deed.TheVariants.{Create}
use Rattle.cam_event.specs.declared.Want.{Want}
use Rattle.cam_event.specs.declared.ViewStep.TheVariants as steps
use Rattle.cam_event.specs.History.{after, count, created, ended, is_create}
use Rattle.cam_event.specs.Inputs.{Mail}
use Rattle.cam_event.specs.Refusals.{refusal}
use Rattle.cam_event.specs.Runs.{IsWant}
use Rattle.cam_event.specs.Carried.{deeds_of}
use Rattle.cam_event.specs.ByDeltas.{Received, as_carried}
use Rattle.cam_event.proofs.Members.{In, any_in, in_any, in_after}
use Rattle.cam_node.specs.Halting.{IsThrough}
use Rattle.cam_runs.specs.Playing.{is_stop_of}
use Rattle.cam_body.specs.declared.Next.TheVariants as nexts
use Rattle.cam_body.specs.Work.{next as next_of_body}
use Rattle.cam_gen.specs.Storms.{Words, body_of, objects_of}
use Rattle.cam_storm.specs.Own.{event_in, own_step, own_view, sight_at, OwnRequest}
use Rattle.cam_storm_node.proofs.Running.{free_runs, may_of}

-- what was created has a view
full_front : {X : Type 0} (xs ys : List X) → (xs ≡ [] → ⊥) → xs ++ ys ≡ [] → ⊥
full_front [] ys full e = full refl
full_front (x ∷ xs) ys full e = cc

full_back : {X : Type 0} (xs ys : List X) → (ys ≡ [] → ⊥) → xs ++ ys ≡ [] → ⊥
full_back [] ys full e = full e
full_back (x ∷ xs) ys full e = cc

full_if : {X : Type 0} (x : X) (t : Bool) → t ≡ true → (if t then x ∷ [] else []) ≡ [] → ⊥
full_if x true h e = cc
full_if x false h e = cc

pub gives : (mail : Option Mail) (a : Name) (d : Deed) → is_create a d ≡ true → own_step mail a d ≡ []
    → ⊥
gives mail a (Create b) is e = full_if steps.Created (name_eq a b) is e
gives mail a _ is e = cc

flat_full : {X Y : Type 0} (f : X → List Y) (xs : List X) (x : X) → In x xs → (f x ≡ [] → ⊥)
    → flat_map f xs ≡ [] → ⊥
flat_full f [] x i full = absurd i
flat_full f (y ∷ ys) x (inl same) full =
    full_front (f y) (flat_map f ys) (subst (λ z. f z ≡ [] → ⊥) same full)
flat_full f (y ∷ ys) x (inr i) full = full_back (f y) (flat_map f ys) (flat_full f ys x i full)

pub created_seen : (own : List Received) (a : Name)
    → created (deeds_of (map as_carried own)) a ≡ true → own_view own a ≡ [] → ⊥
created_seen [] a is = absurd (true≢false (sym is))
created_seen (c ∷ before) a is =
    elim (in_after c.event.deeds L found.0 found.1) [
      | inl new ↦
          full_back (own_view before a) (flat_map (own_step c.mail a) c.event.deeds)
          (flat_full (own_step c.mail a) c.event.deeds found.0 new
          (gives c.mail a found.0 found.2))
      | inr old ↦
          full_front (own_view before a) (flat_map (own_step c.mail a) c.event.deeds)
          (created_seen before a (in_any (is_create a) L found.0 old found.2))
    ]
  where
    L : List Deed
    L = deeds_of (map as_carried before)

    found : (d : Deed) × In d (after L c.event.deeds) × (is_create a d ≡ true)
    found = any_in (is_create a) (after L c.event.deeds) is

-- an action with the next request of its body, against which nothing stands, has it
pub own_request : (words : Words) (s : ℕ) (own : List Received) (a : Name) (want : Want)
    → IsThrough (objects_of words) s own → home_node a ≡ s
    → list_any (is_stop_of a) (map event_in own) ≡ false
    → next_of_body (body_of words a) (own_view own a) ≡ nexts.Request want
    → refusal (sight_at words s own) a want ≡ None → IsWant (objects_of words) want
    → OwnRequest words s own a want
own_request words s own a want through home free next allowed fits = record {
  drives = record {
    here = home;
    may = may_of words s own a through home (free_runs words s own a want allowed) free;
    next = next;
  };
  allowed = allowed;
  fits = fits;
}

-- and has no other
pub same_want : (words : Words) (s : ℕ) (own : List Received) (a : Name) (want other : Want)
    → next_of_body (body_of words a) (own_view own a) ≡ nexts.Request want
    → OwnRequest words s own a other → other ≡ want
same_want words s own a want other next request =
    let both : nexts.Request other ≡ nexts.Request want = sym request.drives.next ∙ next in cc

-- one that was stopped has none
pub stopped_has_none : (words : Words) (s : ℕ) (own : List Received) (a : Name) (want : Want)
    → list_any (is_stop_of a) (map event_in own) ≡ true → OwnRequest words s own a want → ⊥
stopped_has_none words s own a want stopped request =
    absurd (true≢false (sym stopped ∙ last_of_four (created L a) (not (ended L a))
    (eqb (home_count a) (count L s)) (list_any (is_stop_of a) (map event_in own))
    request.drives.may))
  where
    L : List Deed
    L = deeds_of (map as_carried own)

    last_of_four : (b c d e : Bool) → (b && c && d && not e) ≡ true → e ≡ false
    last_of_four true true true true h = absurd (true≢false (sym h))
    last_of_four true true true false h = refl
    last_of_four true true false e h = absurd (true≢false (sym h))
    last_of_four true false d e h = absurd (true≢false (sym h))
    last_of_four false c d e h = absurd (true≢false (sym h))

-- one without a view has none
pub unseen_has_none : (words : Words) (s : ℕ) (own : List Received) (a : Name) (want : Want)
    → own_view own a ≡ [] → OwnRequest words s own a want → ⊥
unseen_has_none words s own a want unseen request =
    created_seen own a (free_runs words s own a want request.allowed).is_created unseen
