-- What a site keeps stays sound over each deed of its node.
use Rattle.std.proofs.Common.{◌≡◌, ℕ, ◌+◌, eqb, Bool, true, false, not, ◌&&◌, ◌||◌, if◌then◌else◌, List, [], ◌∷◌, map, filter, flat_map, Option, refl, sym, ap, ◌∙◌, eq-eqb, arith}
use Rattle.std.specs.List.{list_any}
use Rattle.std.proofs.lemmas.Bool.{true≢false, false_from_ne_true, or_parts}
use Rattle.cam_names.specs.declared.name.Name.{Name}
use Rattle.cam_names.specs.Names.{name_eq, family, is_ancestor}
use Rattle.cam_type.specs.declared.ObjectDecl.{ObjectDecl}
use Rattle.cam_type.specs.declared.Answer.{Answer}
use Rattle.cam_event.specs.declared.Operation.{Operation}
use Rattle.cam_event.specs.declared.Deed.{Deed}
use Rattle.cam_event.specs.declared.Deed.TheVariants.{Create, Ask, Call, Perform, Bounce, Got, AskCommit, AskAbort, Commit, Abort, Secure, Inform, Crash}
use Rattle.cam_event.specs.History.{after, informed, number_of, secured_at}
use Rattle.cam_event.specs.Inputs.{Mail}
use Rattle.cam_event.specs.HeldSites.{Placed, Site, for_family, is_any_perform, performed_op, site_after, site_after_all}
use Rattle.cam_node.proofs.NewFamilies.{IsNew, AreNew}
use Rattle.cam_node.proofs.PlacedOnce.{AreApart, AreRight, AreGroups, names_of, places, has_place, with_owner, right_left, apart_left, of_left, right_more, groups_more, past_apart}
use Rattle.cam_node.proofs.PlacedTogether.{Away, right_append, apart_append, right_order, apart_order, right_groups}
use Rattle.cam_node.proofs.PlacedFamilies.{taken_apart, groups_left, once_left}
use Rattle.cam_node.proofs.SoundSites.{IsSound, IsForIt, AreFit, AtMostOne, owner_of, moved, performed_fits}

-- an operation is performed
abbrev placed_at : ℕ → List Operation → List Placed
placed_at n os = map (λ o. record { index = n; operation = o }) os

itself : (n : ℕ) (f : Name) (owner : ℕ → Name) → with_owner n f owner n ≡ f
itself n f owner = ap (λ (b : Bool). if b then f else owner n) (eq-eqb n n refl)

placed_right : (objects : List ObjectDecl) (s n : ℕ) (owner : ℕ → Name) (os : List Operation)
    → AreFit objects s os → AtMostOne os
    → AreRight objects s (n + 1) (with_owner n (owner_of os) owner) (placed_at n os)
    × AreApart (placed_at n os)
placed_right objects s n owner [] fit one = (tt, tt)
placed_right objects s n owner (o ∷ []) fit one = (
  (
    record {
      past = omega arith;
      owned = sym (itself n (family o.action) owner);
      fits = fit.0;
    },
    tt,
  ),
  (refl, tt),
)
placed_right objects s n owner (o ∷ p ∷ os) fit one = absurd one

placed_away : (ps : List Placed) (n : ℕ) (os : List Operation) → AtMostOne os
    → has_place (places ps) n ≡ false → Away ps (placed_at n os)
placed_away [] n os one none = tt
placed_away (p ∷ ps) n os one none =
    let parts = or_parts (eqb p.index n) (has_place (places ps) n) none in
    (by os one parts.0, placed_away ps n os one parts.1)
  where
    back : (i j : ℕ) → eqb i j ≡ false → eqb j i ≡ false
    back i j apart = grind (arith, apart)

    by : (qs : List Operation) → AtMostOne qs → eqb p.index n ≡ false
        → has_place (places (placed_at n qs)) p.index ≡ false
    by [] none_more apart = refl
    by (o ∷ []) none_more apart = ap (λ (b : Bool). b || false) (back p.index n apart)
    by (o ∷ q ∷ qs) none_more apart = absurd none_more

performs : (objects : List ObjectDecl) (s : ℕ) (L : List Deed) (mail : Option Mail) (at : Site)
    (a : Name) (n : ℕ) (answer : Answer) → IsForIt objects s mail
    → IsSound objects s (number_of is_any_perform L) L at
    → IsSound objects s (number_of is_any_perform (Perform a n answer ∷ L))
    (Perform a n answer ∷ L) (site_after L mail at (Perform a n answer))
performs objects s L mail at a n answer is sound =
    let m : ℕ = number_of is_any_perform L in
    let os : List Operation = performed_op answer mail in
    let fit = performed_fits objects s answer mail is in
    let new = placed_right objects s m sound.owner os fit.0 fit.1 in
    let none = past_apart objects s m sound.owner at.live sound.live in
    record {
      owner = with_owner m (owner_of os) sound.owner;
      live =
          right_append objects s (m + 1) (with_owner m (owner_of os) sound.owner) at.live
          (placed_at m os)
          (right_more objects s m sound.owner (owner_of os) at.live sound.live) new.0;
      apart =
          apart_append at.live (placed_at m os) sound.apart new.1
          (placed_away at.live m os fit.1 none);
      groups = groups_more objects s m sound.owner (owner_of os) at.secured sound.groups;
      once = sound.once;
      among = sound.among;
    }

-- a family is secured that was not
secures : (objects : List ObjectDecl) (s n : ℕ) (L : List Deed) (mail : Option Mail) (at : Site)
    (f : Name) (r c : ℕ) → IsNew s L (Secure f r c) → IsSound objects s n L at
    → IsSound objects s n (Secure f r c ∷ L) (site_after L mail at (Secure f r c))
secures objects s n L mail at f r c new sound =
    record {
      owner = sound.owner;
      live = sound.live;
      apart = sound.apart;
      groups = (
        (
          right_left objects s n sound.owner test at.live sound.live,
          apart_left test at.live sound.apart,
          of_left f at.live,
        ),
        sound.groups,
      );
      once = (
        false_from_ne_true (list_any (name_eq f) (names_of at.secured))
            (λ is. true≢false (sym (sound.among f is) ∙ here.1)),
        sound.once,
      );
      among = λ g is. by g (name_eq g f) refl is;
    }
  where
    test : Placed → Bool
    test p = name_eq f (family p.operation.action)

    here : (r ≡ s) × (secured_at L f s ≡ false)
    here = new f r c refl

    by : (g : Name) (b : Bool) → name_eq g f ≡ b
        → (b || list_any (name_eq g) (names_of at.secured)) ≡ true
        → ((b && eqb s r) || secured_at L g s) ≡ true
    by g true is h = ap (λ (e : Bool). e || secured_at L g s) (eq-eqb s r (sym here.0))
    by g false is h = sound.among g h

crashes : (objects : List ObjectDecl) (s n : ℕ) (L : List Deed) (mail : Option Mail) (at : Site)
    (r : ℕ) → IsSound objects s n L at
    → IsSound objects s n (Crash r ∷ L) (site_after L mail at (Crash r))
crashes objects s n L mail at r sound =
    record {
      owner = sound.owner;
      live =
          right_order objects s n sound.owner (flat_map (λ g. map (for_family g.0) g.1) kept)
          (right_groups objects s n sound.owner kept groups);
      apart =
          apart_order (flat_map (λ g. map (for_family g.0) g.1) kept)
          (taken_apart objects s n sound.owner kept groups
          (once_left test at.secured sound.once));
      groups = sound.groups;
      once = sound.once;
      among = sound.among;
    }
  where
    test : Name × List Placed → Bool
    test g = not (informed L r g.0 false)

    kept : List (Name × List Placed)
    kept = filter test at.secured

    groups : AreGroups objects s n sound.owner kept
    groups = groups_left objects s n sound.owner test at.secured sound.groups

-- One deed more, and all of an event.
sound_after : (objects : List ObjectDecl) (s : ℕ) (L : List Deed) (mail : Option Mail) (at : Site)
    (d : Deed) → IsForIt objects s mail → IsNew s L d
    → IsSound objects s (number_of is_any_perform L) L at
    → IsSound objects s (number_of is_any_perform (d ∷ L)) (d ∷ L) (site_after L mail at d)
sound_after objects s L mail at (Create a) is new sound =
    moved objects s _ L (Create a ∷ L) at (λ f h. h) sound
sound_after objects s L mail at (Ask a b) is new sound =
    moved objects s _ L (Ask a b ∷ L) at (λ f h. h) sound
sound_after objects s L mail at (Call a n x op c) is new sound =
    moved objects s _ L (Call a n x op c ∷ L) at (λ f h. h) sound
sound_after objects s L mail at (Perform a n answer) is new sound =
    performs objects s L mail at a n answer is sound
sound_after objects s L mail at (Bounce a n u) is new sound =
    moved objects s _ L (Bounce a n u ∷ L) at (λ f h. h) sound
sound_after objects s L mail at (Got a n seen) is new sound =
    moved objects s _ L (Got a n seen ∷ L) at (λ f h. h) sound
sound_after objects s L mail at (AskCommit a v) is new sound =
    moved objects s _ L (AskCommit a v ∷ L) at (λ f h. h) sound
sound_after objects s L mail at (AskAbort a) is new sound =
    moved objects s _ L (AskAbort a ∷ L) at (λ f h. h) sound
sound_after objects s L mail at (Commit a) is new sound =
    moved objects s _ L (Commit a ∷ L) at (λ f h. h) sound
sound_after objects s L mail at (Abort a) is new sound =
    moved objects s _ L (Abort a ∷ L) at (λ f h. h) sound
sound_after objects s L mail at (Secure f r c) is new sound =
    secures objects s _ L mail at f r c new sound
sound_after objects s L mail at (Inform r u true) is new sound =
    moved objects s _ L (Inform r u true ∷ L) at (λ f h. h) sound
sound_after objects s L mail at (Inform r u false) is new sound =
    record {
      owner = sound.owner;
      live =
          right_left objects s _ sound.owner (λ p. not (is_ancestor u p.operation.action)) at.live
          sound.live;
      apart = apart_left (λ p. not (is_ancestor u p.operation.action)) at.live sound.apart;
      groups = sound.groups;
      once = sound.once;
      among = sound.among;
    }
sound_after objects s L mail at (Crash r) is new sound = crashes objects s _ L mail at r sound

pub sound_all : (objects : List ObjectDecl) (s : ℕ) (L : List Deed) (mail : Option Mail)
    (at : Site) (ds : List Deed) → IsForIt objects s mail → AreNew s L ds
    → IsSound objects s (number_of is_any_perform L) L at
    → IsSound objects s (number_of is_any_perform (after L ds)) (after L ds)
    (site_after_all L mail at ds)
sound_all objects s L mail at [] is new sound = sound
sound_all objects s L mail at (d ∷ ds) is new sound =
    sound_all objects s (d ∷ L) mail (site_after L mail at d) ds is new.1
    (sound_after objects s L mail at d is new.0 sound)
