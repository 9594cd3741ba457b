-- In what a site keeps no place stands twice, and no family is secured twice; each operation is on an object of the node, and fits it.
use Rattle.std.proofs.Common.{◌≡◌, ℕ, ◌+◌, ◌<◌, eqb, Bool, true, false, cond, if◌then◌else◌, List, [], ◌∷◌, map, filter, flat_map, refl, sym, ap, ◌∙◌, arith}
use Rattle.std.specs.List.{list_any}
use Rattle.std.proofs.lemmas.Bool.{true≢false, or_parts, or_from}
use Rattle.cam_names.specs.declared.name.Name.{Name}
use Rattle.cam_names.specs.Names.{name_eq, family}
use Rattle.cam_type.specs.declared.ObjectDecl.{ObjectDecl}
use Rattle.cam_event.specs.HeldSites.{Placed}
use Rattle.cam_locks.specs.Site.{fits_here}

-- the places of operations, whether one is among them, and that none stands twice
abbrev pub places : List Placed → List ℕ
places ps = map (λ p. p.index) ps

abbrev pub has_place : List ℕ → ℕ → Bool
has_place at i = list_any (λ j. eqb j i) at

abbrev pub NoneTwice : List ℕ → Type 0
NoneTwice [] = Unit {0}
NoneTwice (i ∷ at) = (has_place at i ≡ false) × NoneTwice at

abbrev pub AreApart : List Placed → Type 0
AreApart ps = NoneTwice (places ps)

-- The place is below the number of those that were performed, and belongs to the family of its operation, which fits its object here.
pub record IsRight (objects : List ObjectDecl) (s n : ℕ) (owner : ℕ → Name) (p : Placed) : Type 0
  where
    pub past : p.index < n
    pub owned : family p.operation.action ≡ owner p.index
    pub fits : fits_here objects s p.operation.object p.operation.op ≡ true

abbrev pub AreRight : List ObjectDecl → ℕ → ℕ → (ℕ → Name) → List Placed → Type 0
AreRight objects s n owner [] = Unit {0}
AreRight objects s n owner (p ∷ ps) = IsRight objects s n owner p × AreRight objects s n owner ps

-- operations of this family
abbrev pub AreOf : Name → List Placed → Type 0
AreOf f [] = Unit {0}
AreOf f (p ∷ ps) = (name_eq f (family p.operation.action) ≡ true) × AreOf f ps

-- what is kept of secured families
abbrev pub AreGroups : List ObjectDecl → ℕ → ℕ → (ℕ → Name) → List (Name × List Placed) → Type 0
AreGroups objects s n owner [] = Unit {0}
AreGroups objects s n owner (g ∷ gs) =
    (AreRight objects s n owner g.1 × AreApart g.1 × AreOf g.0 g.1) × AreGroups objects s n owner gs

abbrev pub names_of : List (Name × List Placed) → List Name
names_of gs = map (λ g. g.0) gs

abbrev pub all_of : List (Name × List Placed) → List Placed
all_of gs = flat_map (λ g. g.1) gs

pub not_both : (b : Bool) → b ≡ true → b ≡ false → ⊥
not_both b met failed = true≢false (sym met ∙ failed)

-- What is left of operations is as right as they were.
pub right_left : (objects : List ObjectDecl) (s n : ℕ) (owner : ℕ → Name) (test : Placed → Bool)
    (ps : List Placed) → AreRight objects s n owner ps → AreRight objects s n owner (filter test ps)
right_left objects s n owner test [] right = tt
right_left objects s n owner test (p ∷ ps) right =
    by (test p) (right_left objects s n owner test ps right.1)
  where
    by : (b : Bool) → AreRight objects s n owner (filter test ps)
        → AreRight objects s n owner (cond b (p ∷ filter test ps) (filter test ps))
    by true rest = (right.0, rest)
    by false rest = rest

none_left : (test : Placed → Bool) (ps : List Placed) (i : ℕ) → has_place (places ps) i ≡ false
    → has_place (places (filter test ps)) i ≡ false
none_left test [] i none = refl
none_left test (p ∷ ps) i none =
    let parts = or_parts (eqb p.index i) (has_place (places ps) i) none in
    by (test p) parts.0 (none_left test ps i parts.1)
  where
    by : (b : Bool) → eqb p.index i ≡ false → has_place (places (filter test ps)) i ≡ false
        → has_place (places (cond b (p ∷ filter test ps) (filter test ps))) i ≡ false
    by true one rest = or_from (eqb p.index i) (has_place (places (filter test ps)) i) one rest
    by false one rest = rest

pub apart_left : (test : Placed → Bool) (ps : List Placed) → AreApart ps
    → AreApart (filter test ps)
apart_left test [] apart = tt
apart_left test (p ∷ ps) apart =
    by (test p) (none_left test ps p.index apart.0) (apart_left test ps apart.1)
  where
    by : (b : Bool) → has_place (places (filter test ps)) p.index ≡ false
        → AreApart (filter test ps)
        → AreApart (cond b (p ∷ filter test ps) (filter test ps))
    by true none rest = (none, rest)
    by false none rest = rest

pub of_left : (f : Name) (ps : List Placed)
    → AreOf f (filter (λ p. name_eq f (family p.operation.action)) ps)
of_left f [] = tt
of_left f (p ∷ ps) = by (name_eq f (family p.operation.action)) refl (of_left f ps)
  where
    rest : List Placed
    rest = filter (λ p. name_eq f (family p.operation.action)) ps

    by : (b : Bool) → name_eq f (family p.operation.action) ≡ b → AreOf f rest
        → AreOf f (cond b (p ∷ rest) rest)
    by true is more = (is, more)
    by false is more = more

-- One more is performed: its place is new, and its family owns it.
abbrev pub with_owner : ℕ → Name → (ℕ → Name) → ℕ → Name
with_owner n f owner i = if eqb i n then f else owner i

below_apart : (i n : ℕ) → i < n → eqb i n ≡ false
below_apart i n less = grind (arith, less)

one_more : (objects : List ObjectDecl) (s n : ℕ) (owner : ℕ → Name) (f : Name) (p : Placed)
    → IsRight objects s n owner p → IsRight objects s (n + 1) (with_owner n f owner) p
one_more objects s n owner f p right =
    record {
      past = let less = right.past in omega (arith, less);
      owned =
          right.owned
          ∙ sym
          (ap (λ (b : Bool). if b then f else owner p.index) (below_apart p.index n right.past));
      fits = right.fits;
    }

pub right_more : (objects : List ObjectDecl) (s n : ℕ) (owner : ℕ → Name) (f : Name)
    (ps : List Placed) → AreRight objects s n owner ps
    → AreRight objects s (n + 1) (with_owner n f owner) ps
right_more objects s n owner f [] right = tt
right_more objects s n owner f (p ∷ ps) right =
    (one_more objects s n owner f p right.0, right_more objects s n owner f ps right.1)

pub groups_more : (objects : List ObjectDecl) (s n : ℕ) (owner : ℕ → Name) (f : Name)
    (gs : List (Name × List Placed)) → AreGroups objects s n owner gs
    → AreGroups objects s (n + 1) (with_owner n f owner) gs
groups_more objects s n owner f [] groups = tt
groups_more objects s n owner f (g ∷ gs) groups = (
  (right_more objects s n owner f g.1 groups.0.0, groups.0.1, groups.0.2),
  groups_more objects s n owner f gs groups.1,
)

pub past_apart : (objects : List ObjectDecl) (s n : ℕ) (owner : ℕ → Name) (ps : List Placed)
    → AreRight objects s n owner ps → has_place (places ps) n ≡ false
past_apart objects s n owner [] right = refl
past_apart objects s n owner (p ∷ ps) right =
    or_from (eqb p.index n) (has_place (places ps) n) (below_apart p.index n right.0.past)
    (past_apart objects s n owner ps right.1)
