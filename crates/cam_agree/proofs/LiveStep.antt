-- What a node keeps of its site stays beside the standing operations at each deed of the site: a Perform, an Inform, a Secure.
use Rattle.std.proofs.Common.{◌≡◌, cond, ℕ, ◌+◌, ◌<◌, Bool, true, false, not, ◌&&◌, ◌||◌, if◌then◌else◌, List, [], ◌∷◌, ◌++◌, map, filter, refl, sym, ap, ◌∙◌, arith, subst}
use Rattle.std.specs.Prelude.{nat_lt}
use Rattle.std.specs.List.{list_any}
use Rattle.std.proofs.lemmas.Bool.{true≢false, ltb-true, or_parts, false_from_ne_true}
use Rattle.std.proofs.Math.Bool.{and-false}
use Rattle.std.proofs.lemmas.List.Elements.{filter-append}
use Rattle.cam_names.specs.declared.name.Name.{Name}
use Rattle.cam_names.specs.Names.{name_eq, is_ancestor, ancestors, family}
use Rattle.cam_names.proofs.Names.{name_eq_same, name_eq_sym}
use Rattle.cam_event.specs.declared.Operation.{Operation}
use Rattle.cam_event.specs.HeldSites.{Placed, Site}
use Rattle.cam_event.proofs.Snoc.{filter_filter}
use Rattle.cam_names.proofs.Every.{Every, every_weaker, every_both, every_then, every_append, pairs_push}
use Rattle.std.proofs.lemmas.List.{map-append, append-nil}
use Rattle.cam_agree.proofs.LiveLists.{filter_each, filter_map, every_filtered}
use Rattle.cam_agree.proofs.LiveOrder.{IsBefore, of_family}
use Rattle.cam_agree.proofs.LiveStands.{dropped, alive, handed, take_over, HandedUp, IsKept, Stands}
use Rattle.cam_agree.proofs.LiveFacts.{taken_new, alive_more, alive_abort, each_secured, handed_below}

-- a new operation at its place
abbrev pub placed : ℕ → Operation → Placed
placed n o = record { index = n; operation = o }

-- A Perform of a family that is not secured, of an action none of whose ancestors the site knows aborted.
pub stands_perform : (c n : ℕ) (st : List Placed) (sec down up : Name → Bool) (S : Site) (o : Operation) → Stands c n st sec down up S → is_ancestor o.action o.action ≡ true → sec (family o.action) ≡ false → list_any down (ancestors o.action) ≡ false
    → Stands c (n + 1) (st ++ placed n o ∷ []) sec down up (record S { live = S.live ++ placed n o ∷ [] })
stands_perform c n st sec down up S o h named free clear = record {
  kept_live =
      ap (λ os. os ++ p ∷ []) h.kept_live
      ∙ ap (λ q. map (take_over c) (alive down st) ++ q ∷ []) (sym (taken_new c p h.crash_below))
      ∙ sym (map-append (take_over c) (alive down st) (p ∷ []))
      ∙ ap (map (take_over c)) (sym more);
  groups = every_then (λ g. sec g.0 ≡ true) (IsKept down (st ++ p ∷ [])) S.secured (every_weaker (IsKept down st) (λ g. sec g.0 ≡ true → IsKept down (st ++ p ∷ []) g) S.secured group h.groups) (each_secured S.secured sec h.names);
  names = h.names;
  distinct = h.distinct;
  rising = pairs_push IsBefore st p h.rising h.below;
  below = every_append (λ q. q.index < n + 1) st (p ∷ []) (every_weaker (λ q. q.index < n) (λ q. q.index < n + 1) st (λ q k. omega (arith, k)) h.below) (omega arith, tt);
  crash_below = omega (arith, h.crash_below);
  named = every_append (λ q. is_ancestor q.operation.action q.operation.action ≡ true) st (p ∷ []) h.named (named, tt);
  up_to = subst (Every (λ q. sec (family q.operation.action) ≡ true → HandedUp up q.operation.action)) (sym more)
      (every_append (λ q. sec (family q.operation.action) ≡ true → HandedUp up q.operation.action) (alive down st) (p ∷ []) h.up_to ((λ y. absurd (true≢false (sym y ∙ free))), tt));
  old = every_append (λ q. q.index < c → sec (family q.operation.action) ≡ true) st (p ∷ []) h.old ((λ k. absurd (omega (arith, k, h.crash_below))), tt);
}
  where
    p : Placed
    p = placed n o

    more : alive down (st ++ p ∷ []) ≡ alive down st ++ p ∷ []
    more = alive_more down st p clear

    group : (g : Name × List Placed) → IsKept down st g → sec g.0 ≡ true → IsKept down (st ++ p ∷ []) g
    group g kept yes_it absent =
        kept absent
        ∙ ap (map handed) (
        sym (append-nil (filter (of_family g.0) (alive down st)))
        ∙ ap (λ b. filter (of_family g.0) (alive down st) ++ cond b (p ∷ []) []) (sym apart)
        ∙ sym (filter-append (of_family g.0) (alive down st) (p ∷ []))
        ∙ ap (filter (of_family g.0)) (sym more))
      where
        apart : name_eq g.0 (family o.action) ≡ false
        apart = false_from_ne_true (name_eq g.0 (family o.action)) (λ e. true≢false (sym yes_it ∙ ap sec (name_eq_same g.0 (family o.action) e) ∙ free))

-- The news of a commit.
pub stands_commit : (c n : ℕ) (st : List Placed) (sec down up more : Name → Bool) (S : Site) → Stands c n st sec down up S → ((u : Name) → up u ≡ true → more u ≡ true) → Stands c n st sec down more S
stands_commit c n st sec down up more S h grows = record {
  kept_live = h.kept_live;
  groups = h.groups;
  names = h.names;
  distinct = h.distinct;
  rising = h.rising;
  below = h.below;
  crash_below = h.crash_below;
  named = h.named;
  up_to = every_weaker (λ p. sec (family p.operation.action) ≡ true → HandedUp up p.operation.action) (λ p. sec (family p.operation.action) ≡ true → HandedUp more p.operation.action) (alive down st) (λ p k y u i e. grows u (k y u i e)) h.up_to;
  old = h.old;
}

-- The news of an abort, of an action of whose commit the site was not informed.
pub stands_abort : (c n : ℕ) (st : List Placed) (sec down up more : Name → Bool) (S : Site) (u : Name) → Stands c n st sec down up S → ((v : Name) → more v ≡ (name_eq v u || down v)) → up u ≡ false
    → Stands c n st sec more up (record S { live = filter (λ p. not (is_ancestor u p.operation.action)) S.live })
stands_abort c n st sec down up more S u h is absent = record {
  kept_live =
      ap (filter (λ p. not (is_ancestor u p.operation.action))) h.kept_live
      ∙ filter_map (λ p. not (is_ancestor u p.operation.action)) (take_over c) (alive down st)
      ∙ ap (map (take_over c)) (filter_each (λ p. not (is_ancestor u (take_over c p).operation.action)) (λ p. not (is_ancestor u p.operation.action)) (alive down st)
      (every_weaker Fact (λ p. not (is_ancestor u (take_over c p).operation.action) ≡ not (is_ancestor u p.operation.action)) (alive down st) (λ p k. ap not (same p k)) facts))
      ∙ ap (map (take_over c)) (sym fewer);
  groups = every_then (λ g. sec g.0 ≡ true) (IsKept more st) S.secured (every_weaker (IsKept down st) (λ g. sec g.0 ≡ true → IsKept more st g) S.secured group h.groups) (each_secured S.secured sec h.names);
  names = h.names;
  distinct = h.distinct;
  rising = h.rising;
  below = h.below;
  crash_below = h.crash_below;
  named = h.named;
  up_to = subst (Every (λ p. sec (family p.operation.action) ≡ true → HandedUp up p.operation.action)) (sym fewer)
      (every_filtered (λ p. not (is_ancestor u p.operation.action)) (λ p. sec (family p.operation.action) ≡ true → HandedUp up p.operation.action) (alive down st) h.up_to);
  old = h.old;
}
  where
    fewer : alive more st ≡ filter (λ p. not (is_ancestor u p.operation.action)) (alive down st)
    fewer = alive_abort down more u st is

    Old : Placed → Type 0
    Old p = p.index < c → sec (family p.operation.action) ≡ true

    Named : Placed → Type 0
    Named p = is_ancestor p.operation.action p.operation.action ≡ true

    UpTo : Placed → Type 0
    UpTo p = sec (family p.operation.action) ≡ true → HandedUp up p.operation.action

    Fact : Placed → Type 0
    Fact p = (Old p × Named p) × UpTo p

    facts : Every Fact (alive down st)
    facts = every_both (λ p. Old p × Named p) UpTo (alive down st) (every_filtered (λ p. not (dropped down p)) (λ p. Old p × Named p) st (every_both Old Named st h.old h.named)) h.up_to

    same : (p : Placed) → Fact p → is_ancestor u (take_over c p).operation.action ≡ is_ancestor u p.operation.action
    same p k = by (nat_lt p.index c) refl
      where
        by : (b : Bool) → nat_lt p.index c ≡ b → is_ancestor u (if b then handed p else p).operation.action ≡ is_ancestor u p.operation.action
        by true e = handed_below up u p.operation.action k.0.1 absent (k.1 (k.0.0 (ltb-true p.index c e)))
        by false e = refl

    group : (g : Name × List Placed) → IsKept down st g → sec g.0 ≡ true → IsKept more st g
    group g kept yes_it gone =
        kept old_gone
        ∙ ap (map handed) (
        sym (filter_filter (of_family g.0) (λ p. not (is_ancestor u p.operation.action)) (alive down st)
        ∙ filter_each (λ p. not (is_ancestor u p.operation.action) && of_family g.0 p) (of_family g.0) (alive down st) (every_weaker Fact (λ p. (not (is_ancestor u p.operation.action) && of_family g.0 p) ≡ of_family g.0 p) (alive down st) stays facts))
        ∙ ap (filter (of_family g.0)) (sym fewer))
      where
        both : (name_eq g.0 u ≡ false) × (down g.0 ≡ false)
        both = or_parts (name_eq g.0 u) (down g.0) (sym (is g.0) ∙ gone)

        old_gone : down g.0 ≡ false
        old_gone = both.1

        stays : (p : Placed) → Fact p → (not (is_ancestor u p.operation.action) && of_family g.0 p) ≡ of_family g.0 p
        stays p k = by (of_family g.0 p) refl
          where
            by : (b : Bool) → of_family g.0 p ≡ b → (not (is_ancestor u p.operation.action) && b) ≡ b
            by false e = and-false (not (is_ancestor u p.operation.action))
            by true e = ap (λ b. not b && true) (false_from_ne_true (is_ancestor u p.operation.action) (λ y.
                let mine : g.0 ≡ family p.operation.action = name_eq_same g.0 (family p.operation.action) e in
                let other : name_eq u (family p.operation.action) ≡ false = name_eq_sym u (family p.operation.action) ∙ subst (λ (x : Name). name_eq x u ≡ false) mine both.0 in
                true≢false (sym (k.1 (subst (λ (x : Name). sec x ≡ true) mine yes_it) u y other) ∙ absent)))
