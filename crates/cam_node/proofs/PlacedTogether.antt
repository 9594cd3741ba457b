-- Operations behind others, in order, and taken over by their families.
use Rattle.std.proofs.Common.{◌≡◌, ℕ, nat_lt, eqb, Bool, true, false, cond, List, [], ◌∷◌, ◌++◌, map, flat_map, refl, ap, ◌∙◌, arith}
use Rattle.std.proofs.lemmas.Bool.{or_parts, or_from}
use Rattle.cam_names.specs.declared.name.Name.{Name}
use Rattle.cam_names.specs.Names.{family}
use Rattle.cam_names.proofs.Names.{name_eq_same}
use Rattle.cam_type.specs.declared.ObjectDecl.{ObjectDecl}
use Rattle.cam_event.specs.HeldSites.{Placed, put_placed, in_order, for_family}
use Rattle.cam_node.proofs.PlacedOnce.{places, has_place, AreApart, IsRight, AreRight, AreOf, AreGroups, all_of}

-- operations behind others
pub right_append : (objects : List ObjectDecl) (s n : ℕ) (owner : ℕ → Name) (ps qs : List Placed)
    → AreRight objects s n owner ps → AreRight objects s n owner qs
    → AreRight objects s n owner (ps ++ qs)
right_append objects s n owner [] qs one other = other
right_append objects s n owner (p ∷ ps) qs one other =
    (one.0, right_append objects s n owner ps qs one.1 other)

pub none_append : (ps qs : List Placed) (i : ℕ) → has_place (places ps) i ≡ false
    → has_place (places qs) i ≡ false → has_place (places (ps ++ qs)) i ≡ false
none_append [] qs i one other = other
none_append (p ∷ ps) qs i one other =
    let parts = or_parts (eqb p.index i) (has_place (places ps) i) one in
    or_from (eqb p.index i) (has_place (places (ps ++ qs)) i) parts.0
    (none_append ps qs i parts.1 other)

-- no place of the one is among those of the other
abbrev pub Away : List Placed → List Placed → Type 0
Away [] qs = Unit {0}
Away (p ∷ ps) qs = (has_place (places qs) p.index ≡ false) × Away ps qs

pub apart_append : (ps qs : List Placed) → AreApart ps → AreApart qs → Away ps qs
    → AreApart (ps ++ qs)
apart_append [] qs one other away = other
apart_append (p ∷ ps) qs one other away =
    (none_append ps qs p.index one.0 away.0, apart_append ps qs one.1 other away.1)

-- in order
right_put : (objects : List ObjectDecl) (s n : ℕ) (owner : ℕ → Name) (p : Placed)
    (ps : List Placed) → IsRight objects s n owner p → AreRight objects s n owner ps
    → AreRight objects s n owner (put_placed p ps)
right_put objects s n owner p [] one right = (one, tt)
right_put objects s n owner p (q ∷ ps) one right =
    by (nat_lt p.index q.index) (right_put objects s n owner p ps one right.1)
  where
    by : (b : Bool) → AreRight objects s n owner (put_placed p ps)
        → AreRight objects s n owner (cond b (p ∷ q ∷ ps) (q ∷ put_placed p ps))
    by true rest = (one, right)
    by false rest = (right.0, rest)

pub right_order : (objects : List ObjectDecl) (s n : ℕ) (owner : ℕ → Name) (ps : List Placed)
    → AreRight objects s n owner ps → AreRight objects s n owner (in_order ps)
right_order objects s n owner [] right = tt
right_order objects s n owner (p ∷ ps) right =
    right_put objects s n owner p (in_order ps) right.0
    (right_order objects s n owner ps right.1)

none_put : (p : Placed) (ps : List Placed) (i : ℕ) → eqb p.index i ≡ false
    → has_place (places ps) i ≡ false → has_place (places (put_placed p ps)) i ≡ false
none_put p [] i one none = or_from (eqb p.index i) false one refl
none_put p (q ∷ ps) i one none =
    let parts = or_parts (eqb q.index i) (has_place (places ps) i) none in
    by (nat_lt p.index q.index) parts.0 (none_put p ps i one parts.1)
  where
    by : (b : Bool) → eqb q.index i ≡ false → has_place (places (put_placed p ps)) i ≡ false
        → has_place (places (cond b (p ∷ q ∷ ps) (q ∷ put_placed p ps))) i ≡ false
    by true other rest =
        or_from (eqb p.index i) (has_place (places (q ∷ ps)) i) one none
    by false other rest =
        or_from (eqb q.index i) (has_place (places (put_placed p ps)) i) other rest

none_order : (ps : List Placed) (i : ℕ) → has_place (places ps) i ≡ false
    → has_place (places (in_order ps)) i ≡ false
none_order [] i none = refl
none_order (p ∷ ps) i none =
    let parts = or_parts (eqb p.index i) (has_place (places ps) i) none in
    none_put p (in_order ps) i parts.0 (none_order ps i parts.1)

eqb_back : (i j : ℕ) → eqb i j ≡ false → eqb j i ≡ false
eqb_back i j apart = grind (arith, apart)

apart_put : (p : Placed) (ps : List Placed) → has_place (places ps) p.index ≡ false
    → AreApart ps → AreApart (put_placed p ps)
apart_put p [] none apart = (refl, tt)
apart_put p (q ∷ ps) none apart =
    let parts = or_parts (eqb q.index p.index) (has_place (places ps) p.index) none in
    by (nat_lt p.index q.index)
    (none_put p ps q.index (eqb_back q.index p.index parts.0) apart.0)
    (apart_put p ps parts.1 apart.1)
  where
    by : (b : Bool) → has_place (places (put_placed p ps)) q.index ≡ false
        → AreApart (put_placed p ps) → AreApart (cond b (p ∷ q ∷ ps) (q ∷ put_placed p ps))
    by true one rest = (none, apart)
    by false one rest = (one, rest)

pub apart_order : (ps : List Placed) → AreApart ps → AreApart (in_order ps)
apart_order [] apart = tt
apart_order (p ∷ ps) apart =
    apart_put p (in_order ps) (none_order ps p.index apart.0) (apart_order ps apart.1)

-- The family takes over its operations: they stay where they are, and its own.
family_twice : (a : Name) → family (family a) ≡ family a
family_twice [] = refl
family_twice (p ∷ a) = refl

right_family : (objects : List ObjectDecl) (s n : ℕ) (owner : ℕ → Name) (f : Name)
    (ps : List Placed) → AreRight objects s n owner ps → AreOf f ps
    → AreRight objects s n owner (map (for_family f) ps)
right_family objects s n owner f [] right of = tt
right_family objects s n owner f (p ∷ ps) right of = (
  record {
    past = right.0.past;
    owned =
        ap family (name_eq_same f (family p.operation.action) of.0)
        ∙ family_twice p.operation.action ∙ right.0.owned;
    fits = right.0.fits;
  },
  right_family objects s n owner f ps right.1 of.1,
)

pub right_groups : (objects : List ObjectDecl) (s n : ℕ) (owner : ℕ → Name)
    (gs : List (Name × List Placed)) → AreGroups objects s n owner gs
    → AreRight objects s n owner (flat_map (λ g. map (for_family g.0) g.1) gs)
right_groups objects s n owner [] groups = tt
right_groups objects s n owner (g ∷ gs) groups =
    right_append objects s n owner (map (for_family g.0) g.1)
    (flat_map (λ h. map (for_family h.0) h.1) gs)
    (right_family objects s n owner g.0 g.1 groups.0.0 groups.0.2)
    (right_groups objects s n owner gs groups.1)

same_places : (f : Name) (ps qs rs : List Placed) → places qs ≡ places rs
    → places (map (for_family f) ps ++ qs) ≡ places (ps ++ rs)
same_places f [] qs rs same = same
same_places f (p ∷ ps) qs rs same = ap (λ (at : List ℕ). p.index ∷ at) (same_places f ps qs rs same)

pub groups_places : (gs : List (Name × List Placed))
    → places (flat_map (λ g. map (for_family g.0) g.1) gs) ≡ places (all_of gs)
groups_places [] = refl
groups_places (g ∷ gs) =
    same_places g.0 g.1 (flat_map (λ h. map (for_family h.0) h.1) gs) (all_of gs)
    (groups_places gs)
