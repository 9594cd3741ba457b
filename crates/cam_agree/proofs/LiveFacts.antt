-- Facts of families and of the operations that a node keeps of its site.
use Rattle.std.proofs.Common.{◌≡◌, inl, inr, cond, ℕ, ◌<◌, ◌≤◌, Bool, true, false, not, ◌&&◌, ◌||◌, if◌then◌else◌, List, [], ◌∷◌, ◌++◌, filter, refl, sym, ap, ◌∙◌, subst}
use Rattle.std.specs.Prelude.{nat_lt}
use Rattle.std.specs.List.{list_any}
use Rattle.std.proofs.lemmas.Bool.{true≢false, lt-ltb, le-ltb, or_left, or_right, cases_Bool, false_from_ne_true}
use Rattle.std.proofs.lemmas.List.Elements.{filter-append}
use Rattle.std.proofs.Math.Bool.{and-false}
use Rattle.cam_names.specs.declared.name.Name.{Name}
use Rattle.cam_names.specs.Names.{name_eq, is_ancestor, ancestors, family}
use Rattle.cam_names.proofs.Names.{name_eq_same, name_eq_sym, name_eq_refl, ancestors_any}
use Rattle.cam_event.proofs.Snoc.{filter_filter, filter_same}
use Rattle.cam_event.specs.HeldSites.{Placed}
use Rattle.cam_names.proofs.Every.{Every, every_weaker}
use Rattle.cam_names.proofs.Ancestry.{is_ancestor_self, family_is_ancestor, is_ancestor_trans}
use Rattle.cam_event.proofs.LiveLaws.{list_any_or}
use Rattle.cam_agree.proofs.LiveLists.{any_each}
use Rattle.cam_agree.proofs.LiveOrder.{of_family}
use Rattle.cam_agree.proofs.LiveStands.{dropped, alive, handed, take_over, HandedUp, names_of}

-- a family is its own
pub family_family : (a : Name) → family (family a) ≡ family a
family_family [] = refl
family_family (p ∷ a) = refl

-- an operation that its family has taken over is of that family
pub taken_family : (c : ℕ) (p : Placed) → family (take_over c p).operation.action ≡ family p.operation.action
taken_family c p = elim (nat_lt p.index c) as (λ b. family (if b then handed p else p).operation.action ≡ family p.operation.action) [ true ↦ family_family p.operation.action | false ↦ refl ]

-- what is behind the last crash stays as it is, what is before it goes to its family
pub taken_new : (c : ℕ) (p : Placed) → c ≤ p.index → take_over c p ≡ p
taken_new c p h = ap (λ (b : Bool). if b then handed p else p) (le-ltb p.index c h)

pub taken_old : (c : ℕ) (p : Placed) → p.index < c → take_over c p ≡ handed p
taken_old c p h = ap (λ (b : Bool). if b then handed p else p) (lt-ltb p.index c h)

-- one more operation that is not dropped
pub alive_more : (down : Name → Bool) (st : List Placed) (p : Placed) → dropped down p ≡ false → alive down (st ++ p ∷ []) ≡ alive down st ++ p ∷ []
alive_more down st p h = filter-append (λ q. not (dropped down q)) st (p ∷ []) ∙ ap (λ b. alive down st ++ cond (not b) (p ∷ []) []) h

not_or : (x y : Bool) → not (x || y) ≡ (not y && not x)
not_or true true = refl
not_or true false = refl
not_or false true = refl
not_or false false = refl

-- one more abort
pub alive_abort : (down more : Name → Bool) (u : Name) (st : List Placed) → ((v : Name) → more v ≡ (name_eq v u || down v)) → alive more st ≡ filter (λ p. not (is_ancestor u p.operation.action)) (alive down st)
alive_abort down more u st h =
    filter_same (λ p. not (dropped more p)) (λ p. not (dropped down p) && not (is_ancestor u p.operation.action)) st (λ p.
    ap not (any_each more (λ v. name_eq v u || down v) (ancestors p.operation.action) h
    ∙ list_any_or (λ v. name_eq v u) down (ancestors p.operation.action)
    ∙ ap (λ b. b || dropped down p) (any_each (λ v. name_eq v u) (name_eq u) (ancestors p.operation.action) (λ v. name_eq_sym v u) ∙ ancestors_any u p.operation.action))
    ∙ not_or (is_ancestor u p.operation.action) (dropped down p))
    ∙ sym (filter_filter (λ p. not (is_ancestor u p.operation.action)) (λ p. not (dropped down p)) st)

-- the operations of a secured family are among those of the secured families
pub secured_family : (sec : Name → Bool) (f : Name) (xs : List Placed) → sec f ≡ true → filter (of_family f) (filter (λ p. sec (family p.operation.action)) xs) ≡ filter (of_family f) xs
secured_family sec f xs h =
    filter_filter (of_family f) (λ p. sec (family p.operation.action)) xs
    ∙ filter_same (λ p. sec (family p.operation.action) && of_family f p) (of_family f) xs (λ p. by p (of_family f p) refl)
  where
    by : (p : Placed) → (b : Bool) → of_family f p ≡ b → (sec (family p.operation.action) && b) ≡ b
    by p true e = ap (λ b. b && true) (subst (λ (a : Name). sec a ≡ true) (name_eq_same f (family p.operation.action) e) h)
    by p false e = and-false (sec (family p.operation.action))

-- each secured family is among the names
each_among : (gs all : List (Name × List Placed)) → ((f : Name) → list_any (name_eq f) (names_of gs) ≡ true → list_any (name_eq f) (names_of all) ≡ true) → Every (λ g. list_any (name_eq g.0) (names_of all) ≡ true) gs
each_among [] all more = tt
each_among (g ∷ gs) all more = (
  more g.0 (or_left (name_eq g.0 g.0) (list_any (name_eq g.0) (names_of gs)) (name_eq_refl g.0)),
  each_among gs all (λ f h. more f (or_right (name_eq f g.0) (list_any (name_eq f) (names_of gs)) h)),
)

pub each_secured : (gs : List (Name × List Placed)) (sec : Name → Bool) → ((f : Name) → list_any (name_eq f) (names_of gs) ≡ sec f) → Every (λ g. sec g.0 ≡ true) gs
each_secured gs sec names = every_weaker (λ g. list_any (name_eq g.0) (names_of gs) ≡ true) (λ g. sec g.0 ≡ true) gs (λ g h. sym (names g.0) ∙ h) (each_among gs gs (λ f h. h))

-- Of an operation that was handed up to its family the aborted ancestors are those of the family, where no other ancestor is aborted.
pub handed_below : (up : Name → Bool) (u a : Name) → is_ancestor a a ≡ true → up u ≡ false → HandedUp up a → is_ancestor u (family a) ≡ is_ancestor u a
handed_below up u a named absent h = by (is_ancestor u a) refl
  where
    top : is_ancestor (family a) a ≡ true
    top = family_is_ancestor a a named

    by : (b : Bool) → is_ancestor u a ≡ b → is_ancestor u (family a) ≡ b
    by true e = elim (cases_Bool (name_eq u (family a))) [
      | inl y ↦ subst (λ (x : Name). is_ancestor x (family a) ≡ true) (sym (name_eq_same u (family a) y)) (self (family a) a top)
      | inr n ↦ absurd (true≢false (sym (h u e n) ∙ absent))
    ]
      where
        self : (x y : Name) → is_ancestor x y ≡ true → is_ancestor x x ≡ true
        self x y g = is_ancestor_self x y g
    by false e = false_from_ne_true (is_ancestor u (family a)) (λ y. true≢false (sym (is_ancestor_trans u (family a) a y top) ∙ e))
