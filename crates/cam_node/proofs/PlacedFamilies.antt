-- Of several families no place stands twice, as each place has one owner.
use Rattle.std.proofs.Common.{◌≡◌, ℕ, eqb, Bool, true, false, cond, List, [], ◌∷◌, map, filter, flat_map, refl, sym, ap, subst, ◌∙◌}
use Rattle.std.specs.List.{list_any}
use Rattle.std.proofs.lemmas.Bool.{or_parts, or_from, eqb-true}
use Rattle.cam_names.specs.declared.name.Name.{Name}
use Rattle.cam_names.specs.Names.{name_eq, family}
use Rattle.cam_names.proofs.Names.{name_eq_same, name_eq_refl}
use Rattle.cam_type.specs.declared.ObjectDecl.{ObjectDecl}
use Rattle.cam_event.specs.HeldSites.{Placed, for_family}
use Rattle.cam_node.specs.Restartable.{EachOnce}
use Rattle.cam_node.proofs.PlacedOnce.{places, has_place, NoneTwice, AreApart, AreRight, AreOf, AreGroups, names_of, all_of, not_both}
use Rattle.cam_node.proofs.PlacedTogether.{Away, none_append, apart_append, groups_places}

-- A place has one owner, so that of several families no place stands twice.
none_in : (objects : List ObjectDecl) (s n : ℕ) (owner : ℕ → Name) (i : ℕ) (f : Name)
    (ps : List Placed) → AreRight objects s n owner ps → AreOf f ps
    → name_eq (owner i) f ≡ false → has_place (places ps) i ≡ false
none_in objects s n owner i f [] right of off = refl
none_in objects s n owner i f (p ∷ ps) right of off =
    or_from (eqb p.index i) (has_place (places ps) i) (by (eqb p.index i) refl)
    (none_in objects s n owner i f ps right.1 of.1 off)
  where
    by : (b : Bool) → eqb p.index i ≡ b → b ≡ false
    by false is = refl
    by true is =
        let at : p.index ≡ i = eqb-true p.index i is in
        let own : f ≡ owner i =
        name_eq_same f (family p.operation.action) of.0 ∙ right.0.owned ∙ ap owner at in
        absurd
        (not_both (name_eq (owner i) f)
        (ap (name_eq (owner i)) own ∙ name_eq_refl (owner i)) off)

none_there : (objects : List ObjectDecl) (s n : ℕ) (owner : ℕ → Name) (i : ℕ)
    (gs : List (Name × List Placed)) → AreGroups objects s n owner gs
    → list_any (name_eq (owner i)) (names_of gs) ≡ false → has_place (places (all_of gs)) i ≡ false
none_there objects s n owner i [] groups off = refl
none_there objects s n owner i (g ∷ gs) groups off =
    let parts = or_parts (name_eq (owner i) g.0) (list_any (name_eq (owner i)) (names_of gs)) off in
    none_append g.1 (all_of gs) i
    (none_in objects s n owner i g.0 g.1 groups.0.0 groups.0.2 parts.0)
    (none_there objects s n owner i gs groups.1 parts.1)

away_of : (objects : List ObjectDecl) (s n : ℕ) (owner : ℕ → Name) (f : Name) (ps : List Placed)
    (gs : List (Name × List Placed)) → AreRight objects s n owner ps → AreOf f ps
    → AreGroups objects s n owner gs → list_any (name_eq f) (names_of gs) ≡ false
    → Away ps (all_of gs)
away_of objects s n owner f [] gs right of groups off = tt
away_of objects s n owner f (p ∷ ps) gs right of groups off =
    let own : f ≡ owner p.index =
    name_eq_same f (family p.operation.action) of.0 ∙ right.0.owned in (
      none_there objects s n owner p.index gs groups
          (subst (λ (a : Name). list_any (name_eq a) (names_of gs) ≡ false) own off),
      away_of objects s n owner f ps gs right.1 of.1 groups off,
    )

pub groups_apart : (objects : List ObjectDecl) (s n : ℕ) (owner : ℕ → Name)
    (gs : List (Name × List Placed)) → AreGroups objects s n owner gs
    → EachOnce (names_of gs) → AreApart (all_of gs)
groups_apart objects s n owner [] groups once = tt
groups_apart objects s n owner (g ∷ gs) groups once =
    apart_append g.1 (all_of gs) groups.0.1 (groups_apart objects s n owner gs groups.1 once.1)
    (away_of objects s n owner g.0 g.1 gs groups.0.0 groups.0.2 groups.1 once.0)

pub taken_apart : (objects : List ObjectDecl) (s n : ℕ) (owner : ℕ → Name)
    (gs : List (Name × List Placed)) → AreGroups objects s n owner gs
    → EachOnce (names_of gs) → AreApart (flat_map (λ g. map (for_family g.0) g.1) gs)
taken_apart objects s n owner gs groups once =
    subst NoneTwice (sym (groups_places gs)) (groups_apart objects s n owner gs groups once)

-- some of the families
pub groups_left : (objects : List ObjectDecl) (s n : ℕ) (owner : ℕ → Name)
    (test : Name × List Placed → Bool) (gs : List (Name × List Placed))
    → AreGroups objects s n owner gs → AreGroups objects s n owner (filter test gs)
groups_left objects s n owner test [] groups = tt
groups_left objects s n owner test (g ∷ gs) groups =
    by (test g) (groups_left objects s n owner test gs groups.1)
  where
    by : (b : Bool) → AreGroups objects s n owner (filter test gs)
        → AreGroups objects s n owner (cond b (g ∷ filter test gs) (filter test gs))
    by true rest = (groups.0, rest)
    by false rest = rest

no_name_left : (test : Name × List Placed → Bool) (gs : List (Name × List Placed)) (f : Name)
    → list_any (name_eq f) (names_of gs) ≡ false
    → list_any (name_eq f) (names_of (filter test gs)) ≡ false
no_name_left test [] f none = refl
no_name_left test (g ∷ gs) f none =
    let parts = or_parts (name_eq f g.0) (list_any (name_eq f) (names_of gs)) none in
    by (test g) parts.0 (no_name_left test gs f parts.1)
  where
    by : (b : Bool) → name_eq f g.0 ≡ false
        → list_any (name_eq f) (names_of (filter test gs)) ≡ false
        → list_any (name_eq f) (names_of (cond b (g ∷ filter test gs) (filter test gs))) ≡ false
    by true one rest =
        or_from (name_eq f g.0) (list_any (name_eq f) (names_of (filter test gs))) one rest
    by false one rest = rest

pub once_left : (test : Name × List Placed → Bool) (gs : List (Name × List Placed))
    → EachOnce (names_of gs) → EachOnce (names_of (filter test gs))
once_left test [] once = tt
once_left test (g ∷ gs) once =
    by (test g) (no_name_left test gs g.0 once.0) (once_left test gs once.1)
  where
    by : (b : Bool) → list_any (name_eq g.0) (names_of (filter test gs)) ≡ false
        → EachOnce (names_of (filter test gs))
        → EachOnce (names_of (cond b (g ∷ filter test gs) (filter test gs)))
    by true none rest = (none, rest)
    by false none rest = rest
