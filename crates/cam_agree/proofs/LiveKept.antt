-- What a node keeps of its site stays beside the standing operations where a family is secured, and where the site crashes.
use Rattle.std.proofs.Common.{◌≡◌, inl, inr, cond, ℕ, ◌<◌, Bool, true, false, not, ◌&&◌, ◌||◌, if◌then◌else◌, List, [], ◌∷◌, map, filter, refl, sym, ap, ◌∙◌, arith, subst}
use Rattle.std.specs.Prelude.{nat_lt, flat_map}
use Rattle.std.specs.List.{list_any}
use Rattle.std.proofs.lemmas.Bool.{true≢false, or_right, or_cases, false_from_ne_true, not-true}
use Rattle.std.proofs.Math.Bool.{and-false}
use Rattle.cam_names.specs.declared.name.Name.{Name}
use Rattle.cam_names.specs.Names.{name_eq, is_ancestor, ancestors, family}
use Rattle.cam_names.proofs.Names.{name_eq_same, name_eq_sym}
use Rattle.cam_event.specs.HeldSites.{Placed, Site, for_family, put_placed, in_order}
use Rattle.cam_event.proofs.Members.{in_any}
use Rattle.cam_event.proofs.Snoc.{filter_same}
use Rattle.cam_names.proofs.Every.{Every, every_weaker, every_both, every_then, pairs_weaker, pairs_filter}
use Rattle.cam_names.proofs.Ancestry.{family_is_ancestor}
use Rattle.cam_cut.proofs.Clear.{ancestors_in}
use Rattle.cam_cut.proofs.Informs.{any_filter_name}
use Rattle.std.proofs.lemmas.List.Folds.{flat_map-map}
use Rattle.cam_cut.proofs.Lists.{filter_swap}
use Rattle.cam_agree.proofs.LiveLists.{filter_each, map_each, flat_each, filter_map, map_map, map_flat, every_kept, every_filtered, any_each}
use Rattle.cam_agree.proofs.LiveOrder.{IsBefore, Distinct, of_family, of_families, grouped}
use Rattle.cam_agree.proofs.LiveStands.{dropped, alive, handed, take_over, HandedUp, names_of, IsKept, Stands}
use Rattle.cam_agree.proofs.LiveFacts.{taken_family, taken_old, secured_family, each_secured}

-- A family is secured whose operations were handed up to it.
pub stands_secure : (c n : ℕ) (st : List Placed) (sec more down up : Name → Bool) (S : Site) (f : Name) → Stands c n st sec down up S → ((g : Name) → more g ≡ (name_eq g f || sec g)) → sec f ≡ false
    → Every (λ p. of_family f p ≡ true → HandedUp up p.operation.action) (alive down st)
    → Stands c n st more down up (record S { secured = (f, filter (λ p. name_eq f (family p.operation.action)) S.live) ∷ S.secured })
stands_secure c n st sec more down up S f h is free to_it = record {
  kept_live = h.kept_live;
  groups = ((λ absent. new), h.groups);
  names = λ g. ap (λ b. name_eq g f || b) (h.names g) ∙ sym (is g);
  distinct = (h.names f ∙ free, h.distinct);
  rising = h.rising;
  below = h.below;
  crash_below = h.crash_below;
  named = h.named;
  up_to = every_weaker (λ p. UpTo p × (of_family f p ≡ true → HandedUp up p.operation.action)) (λ p. more (family p.operation.action) ≡ true → HandedUp up p.operation.action) (alive down st) to_all (every_both UpTo (λ p. of_family f p ≡ true → HandedUp up p.operation.action) (alive down st) h.up_to to_it);
  old = every_weaker (λ p. p.index < c → sec (family p.operation.action) ≡ true) (λ p. p.index < c → more (family p.operation.action) ≡ true) st (λ p k less. is (family p.operation.action) ∙ or_right (name_eq (family p.operation.action) f) (sec (family p.operation.action)) (k less)) h.old;
}
  where
    UpTo : Placed → Type 0
    UpTo p = sec (family p.operation.action) ≡ true → HandedUp up p.operation.action

    to_all : (p : Placed) → UpTo p × (of_family f p ≡ true → HandedUp up p.operation.action) → more (family p.operation.action) ≡ true → HandedUp up p.operation.action
    to_all p k y = elim (or_cases (name_eq (family p.operation.action) f) (sec (family p.operation.action)) (sym (is (family p.operation.action)) ∙ y)) [
      | inl e ↦ k.1 (name_eq_sym f (family p.operation.action) ∙ e)
      | inr e ↦ k.0 e
    ]

    taken : (p : Placed) → of_family f p ≡ true → for_family f (take_over c p) ≡ handed p
    taken p e = elim (nat_lt p.index c) as (λ (b : Bool). for_family f (if b then handed p else p) ≡ handed p) [ true ↦ same | false ↦ same ]
      where
        same : for_family f p ≡ handed p
        same = ap (λ (g : Name). for_family g p) (name_eq_same f (family p.operation.action) e)

    new : map (for_family f) (filter (of_family f) S.live) ≡ map handed (filter (of_family f) (alive down st))
    new =
        ap (λ os. map (for_family f) (filter (of_family f) os)) h.kept_live
        ∙ ap (map (for_family f)) (
        filter_map (of_family f) (take_over c) (alive down st)
        ∙ ap (map (take_over c)) (filter_same (λ p. of_family f (take_over c p)) (of_family f) (alive down st) (λ p. ap (name_eq f) (taken_family c p))))
        ∙ map_map (for_family f) (take_over c) (filter (of_family f) (alive down st))
        ∙ map_each (λ p. for_family f (take_over c p)) handed (filter (of_family f) (alive down st))
        (every_weaker (λ p. Unit {0} × (of_family f p ≡ true)) (λ p. for_family f (take_over c p) ≡ handed p) (filter (of_family f) (alive down st)) (λ p k. taken p k.1)
        (every_kept (of_family f) (λ p. Unit {0}) (alive down st) (all (alive down st))))
      where
        all : (ps : List Placed) → Every (λ p. Unit {0}) ps
        all [] = tt
        all (p ∷ ps) = (tt, all ps)

-- operations that are handed to their families stay in order
put_handed : (p : Placed) (qs : List Placed) → put_placed (handed p) (map handed qs) ≡ map handed (put_placed p qs)
put_handed p [] = refl
put_handed p (q ∷ qs) = elim (nat_lt p.index q.index) as (λ (b : Bool). (if b then handed p ∷ handed q ∷ map handed qs else handed q ∷ put_placed (handed p) (map handed qs)) ≡ map handed (if b then p ∷ q ∷ qs else q ∷ put_placed p qs)) [
  | true ↦ refl
  | false ↦ ap (λ os. handed q ∷ os) (put_handed p qs)
]

order_handed : (ps : List Placed) → in_order (map handed ps) ≡ map handed (in_order ps)
order_handed [] = refl
order_handed (p ∷ ps) = ap (put_placed (handed p)) (order_handed ps) ∙ put_handed p (in_order ps)

-- some of the names still stand once each
distinct_filter : (q : Name → Bool) (fs : List Name) → Distinct fs → Distinct (filter q fs)
distinct_filter q [] h = tt
distinct_filter q (f ∷ fs) h = elim (q f) as (λ b. Distinct (cond b (f ∷ filter q fs) (filter q fs))) [
  | true ↦ (any_filter_name q f fs ∙ ap (λ b. q f && b) h.0 ∙ and-false (q f), distinct_filter q fs h.1)
  | false ↦ distinct_filter q fs h.1
]

-- of an operation that is not dropped the family is not aborted
family_stays : (down : Name → Bool) (p : Placed) → is_ancestor p.operation.action p.operation.action ≡ true → not (dropped down p) ≡ true → down (family p.operation.action) ≡ false
family_stays down p named h = false_from_ne_true (down (family p.operation.action)) (λ y.
    let a : Name = p.operation.action in
    true≢false (sym (in_any down (ancestors a) (family a) (ancestors_in a (family a) (family_is_ancestor a a named)) y) ∙ not-true (dropped down p) h))

-- A crash leaves the operations of the secured families that are not aborted, in their order.
pub stands_crash : (c n : ℕ) (st : List Placed) (sec down up : Name → Bool) (S : Site) → Stands c n st sec down up S
    → Stands n n (filter (λ p. sec (family p.operation.action)) st) sec down up (record S { live = in_order (flat_map (λ g. map (for_family g.0) g.1) (filter (λ g. not (down g.0)) S.secured)) })
stands_crash c n st sec down up S h = record {
  kept_live = ap in_order each ∙ order_handed (flat_map (λ g. filter (of_family g.0) (alive down st)) left) ∙ ap (map handed) whole ∙ taken;
  groups = every_then (λ g. sec g.0 ≡ true) (IsKept down (filter secured st)) S.secured (every_weaker (IsKept down st) (λ g. sec g.0 ≡ true → IsKept down (filter secured st) g) S.secured group h.groups) (each_secured S.secured sec h.names);
  names = h.names;
  distinct = h.distinct;
  rising = pairs_filter secured IsBefore st (pairs_weaker IsBefore (λ p q. secured p ≡ true → secured q ≡ true → IsBefore p q) st (λ p q k x y. k) h.rising);
  below = every_filtered secured (λ p. p.index < n) st h.below;
  crash_below = omega arith;
  named = every_filtered secured (λ p. is_ancestor p.operation.action p.operation.action ≡ true) st h.named;
  up_to = subst (Every UpTo) (sym swapped) (every_filtered secured UpTo (alive down st) h.up_to);
  old = every_weaker (λ p. (p.index < n) × (secured p ≡ true)) (λ p. p.index < n → secured p ≡ true) (filter secured st) (λ p k less. k.1) (every_kept secured (λ p. p.index < n) st h.below);
}
  where
    UpTo : Placed → Type 0
    UpTo p = sec (family p.operation.action) ≡ true → HandedUp up p.operation.action

    secured : Placed → Bool
    secured p = sec (family p.operation.action)

    left : List (Name × List Placed)
    left = filter (λ g. not (down g.0)) S.secured

    swapped : alive down (filter secured st) ≡ filter secured (alive down st)
    swapped = filter_swap (λ p. not (dropped down p)) secured st

    group : (g : Name × List Placed) → IsKept down st g → sec g.0 ≡ true → IsKept down (filter secured st) g
    group g kept yes_it absent = kept absent ∙ ap (map handed) (sym (ap (filter (of_family g.0)) swapped ∙ secured_family sec g.0 (alive down st) yes_it))

    each : flat_map (λ g. map (for_family g.0) g.1) left ≡ map handed (flat_map (λ g. filter (of_family g.0) (alive down st)) left)
    each =
        flat_each (λ g. map (for_family g.0) g.1) (λ g. map handed (filter (of_family g.0) (alive down st))) left
        (every_weaker (λ g. IsKept down st g × (not (down g.0) ≡ true)) (λ g. map (for_family g.0) g.1 ≡ map handed (filter (of_family g.0) (alive down st))) left (λ g k. k.0 (not-true (down g.0) k.1))
        (every_kept (λ g. not (down g.0)) (IsKept down st) S.secured h.groups))
        ∙ sym (map_flat handed (λ g. filter (of_family g.0) (alive down st)) left)

    fs : List Name
    fs = filter (λ f. not (down f)) (names_of S.secured)

    of_left : (p : Placed) → (is_ancestor p.operation.action p.operation.action ≡ true) × (not (dropped down p) ≡ true) → of_families fs p ≡ secured p
    of_left p k =
        let f : Name = family p.operation.action in
        any_each (λ g. name_eq g f) (name_eq f) fs (λ g. name_eq_sym g f)
        ∙ any_filter_name (λ g. not (down g)) f (names_of S.secured)
        ∙ ap (λ b. not b && list_any (name_eq f) (names_of S.secured)) (family_stays down p k.0 k.1)
        ∙ h.names f

    whole : in_order (flat_map (λ g. filter (of_family g.0) (alive down st)) left) ≡ alive down (filter secured st)
    whole =
        ap in_order (
        sym (flat_map-map (λ f. filter (of_family f) (alive down st)) (λ g. g.0) left)
        ∙ ap (flat_map (λ f. filter (of_family f) (alive down st))) (sym (filter_map (λ f. not (down f)) (λ (g : Name × List Placed). g.0) S.secured)))
        ∙ grouped fs (alive down st)
        (pairs_filter (λ p. not (dropped down p)) IsBefore st (pairs_weaker IsBefore (λ p q. not (dropped down p) ≡ true → not (dropped down q) ≡ true → IsBefore p q) st (λ p q k x y. k) h.rising))
        (distinct_filter (λ f. not (down f)) (names_of S.secured) h.distinct)
        ∙ filter_each (of_families fs) secured (alive down st)
        (every_weaker (λ p. (is_ancestor p.operation.action p.operation.action ≡ true) × (not (dropped down p) ≡ true)) (λ p. of_families fs p ≡ secured p) (alive down st) of_left
        (every_kept (λ p. not (dropped down p)) (λ p. is_ancestor p.operation.action p.operation.action ≡ true) st h.named))
        ∙ sym swapped

    taken : map handed (alive down (filter secured st)) ≡ map (take_over n) (alive down (filter secured st))
    taken =
        map_each handed (take_over n) (alive down (filter secured st))
        (every_weaker (λ p. p.index < n) (λ p. handed p ≡ take_over n p) (alive down (filter secured st)) (λ p k. sym (taken_old n p k))
        (every_filtered (λ p. not (dropped down p)) (λ p. p.index < n) (filter secured st) (every_filtered secured (λ p. p.index < n) st h.below)))
