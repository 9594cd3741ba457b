-- What some element of a list passes, and what is found in one.
use Rattle.std.proofs.Common.{◌≡◌, inl, inr, Bool, true, false, List, [], ◌∷◌, Some, None, refl, sym, ap, ◌∙◌, subst, ◌⊎◌, cond, ◌++◌, filter, ◌||◌, ◌&&◌, find}
use Rattle.std.proofs.lemmas.Bool.{true≢false, or_cases, or_left, or_right}
use Rattle.std.proofs.lemmas.Option.{same_Some, none-some}
use Rattle.std.specs.List.{list_any, list_all, flat_map}
use Rattle.cam_names.proofs.Names.{name_eq_same}
use Rattle.cam_names.specs.Names.{name_eq}
use Rattle.cam_names.specs.Part.{PartFields}
use Rattle.cam_names.proofs.Every.{Every}

-- a fact of some element by a weaker test
pub any_weaker : {X : Type 0} (p q : X → Bool) (xs : List X) → ((x : X) → p x ≡ true → q x ≡ true) → list_any p xs ≡ true → list_any q xs ≡ true
any_weaker p q [] more h = cc
any_weaker p q (x ∷ xs) more h = elim (or_cases (p x) (list_any p xs) h) [
  | inl e ↦ or_left (q x) (list_any q xs) (more x e)
  | inr r ↦ or_right (q x) (list_any q xs) (any_weaker p q xs more r)
]

-- a test of the second part
pub any_right : {X : Type 0} (t : X → Bool) (xs ys : List X) → list_any t ys ≡ true → list_any t (xs ++ ys) ≡ true
any_right t [] ys h = h
any_right t (x ∷ xs) ys h = or_right (t x) (list_any t (xs ++ ys)) (any_right t xs ys h)

-- a test of the first part
pub any_left : {X : Type 0} (t : X → Bool) (xs ys : List X) → list_any t xs ≡ true → list_any t (xs ++ ys) ≡ true
any_left t [] ys h = cc
any_left t (x ∷ xs) ys h = elim (or_cases (t x) (list_any t xs) h) [
  | inl e ↦ or_left (t x) (list_any t (xs ++ ys)) e
  | inr r ↦ or_right (t x) (list_any t (xs ++ ys)) (any_left t xs ys r)
]

-- what passes one test stays where another lets it
pub any_filter : {X : Type 0} (p q : X → Bool) (xs : List X) → ((x : X) → p x ≡ true → q x ≡ true) → list_any p xs ≡ true → list_any p (filter q xs) ≡ true
any_filter p q [] keep h = cc
any_filter {X} p q (x ∷ xs) keep h = by (q x) refl (or_cases (p x) (list_any p xs) h) (any_filter p q xs keep)
  where
    by : (b : Bool) → q x ≡ b → (p x ≡ true) ⊎ (list_any p xs ≡ true) → ((list_any p xs ≡ true → list_any p (filter q xs) ≡ true)) → list_any p (cond b (x ∷ filter q xs) (filter q xs)) ≡ true
    by true e (inl y) rest = or_left (p x) (list_any p (filter q xs)) y
    by true e (inr r) rest = or_right (p x) (list_any p (filter q xs)) (rest r)
    by false e (inl y) rest = absurd (true≢false (sym (keep x y) ∙ e))
    by false e (inr r) rest = rest r

-- a test of an element of a joined list
pub any_flat : {X Y : Type 0} (t : Y → Bool) (f : X → List Y) (eq : X → Bool) (xs : List X) → ((x : X) → eq x ≡ true → list_any t (f x) ≡ true) → list_any eq xs ≡ true → list_any t (flat_map f xs) ≡ true
any_flat t f eq [] each h = cc
any_flat t f eq (x ∷ xs) each h = elim (or_cases (eq x) (list_any eq xs) h) [
  | inl y ↦ any_left t (f x) (flat_map f xs) (each x y)
  | inr r ↦ any_right t (f x) (flat_map f xs) (any_flat t f eq xs each r)
]

-- nothing passes a filter that keeps nothing
pub filter_none : {X : Type 0} (t : X → Bool) (xs : List X) → filter t xs ≡ [] → list_any t xs ≡ false
filter_none t [] h = refl
filter_none {X} t (x ∷ xs) h = elim (t x) as (λ b. cond b (x ∷ filter t xs) (filter t xs) ≡ [] → (b || list_any t xs) ≡ false) [
  | true ↦ λ e. cc
  | false ↦ λ e. filter_none t xs e
] h

-- none is found where none passes
pub none_found : {X : Type 0} (test : X → Bool) (xs : List X) → find test xs ≡ None → Every (λ x. test x ≡ false) xs
none_found test [] h = tt
none_found {X} test (x ∷ xs) h =
    elim (test x) as (λ b. cond b (Some x) (find test xs) ≡ None → (b ≡ false) × Every (λ y. test y ≡ false) xs) [
      | true ↦ λ g. absurd (none-some x (sym g))
      | false ↦ λ g. (refl, none_found test xs g)
    ] h

-- what is found is of the list
pub found_of : {X : Type 0} (P : X → Type 0) (test : X → Bool) (xs : List X) (y : X) → Every P xs → find test xs ≡ Some y → P y
found_of P test [] y h e = cc
found_of {X} P test (x ∷ xs) y h e =
    elim (test x) as (λ b. cond b (Some x) (find test xs) ≡ Some y → P y) [
      | true ↦ λ g. subst P (same_Some x y g) h.0
      | false ↦ λ g. found_of P test xs y h.1 g
    ] e

-- what holds of each of a list of names holds of a name in it
pub any_every : (us : List (List PartFields)) (P : List PartFields → Type 0) (u : List PartFields) → Every P us → list_any (name_eq u) us ≡ true → P u
any_every [] P u h g = cc
any_every (v ∷ us) P u h g = elim (or_cases (name_eq u v) (list_any (name_eq u) us) g) [
  | inl e ↦ subst P (sym (name_eq_same u v e)) h.0
  | inr r ↦ any_every us P u h.1 r
]

-- what passes a test is kept by a filter, or is an element that the filter drops
pub lost : {X : Type 0} (test keep : X → Bool) (Fact : X → Type 0) (xs : List X) → Every Fact xs → list_any test xs ≡ true → (list_any test (filter keep xs) ≡ true) ⊎ ((x : X) × (test x ≡ true) × (keep x ≡ false) × Fact x)
lost test keep Fact [] facts h = cc
lost {X} test keep Fact (x ∷ xs) facts h = by (keep x) refl (or_cases (test x) (list_any test xs) h) (lost test keep Fact xs facts.1)
  where
    by : (b : Bool) → keep x ≡ b → (test x ≡ true) ⊎ (list_any test xs ≡ true) → (list_any test xs ≡ true → (list_any test (filter keep xs) ≡ true) ⊎ ((y : X) × (test y ≡ true) × (keep y ≡ false) × Fact y)) → (list_any test (cond b (x ∷ filter keep xs) (filter keep xs)) ≡ true) ⊎ ((y : X) × (test y ≡ true) × (keep y ≡ false) × Fact y)
    by true e (inl y) rest = inl (or_left (test x) (list_any test (filter keep xs)) y)
    by true e (inr r) rest = elim (rest r) [ inl k ↦ inl (or_right (test x) (list_any test (filter keep xs)) k) | inr l ↦ inr l ]
    by false e (inl y) rest = inr (x, y, e, facts.0)
    by false e (inr r) rest = rest r

-- a test of some element of a list with one more
pub any_last : {X : Type 0} (test : X → Bool) (xs : List X) (x : X) → list_any test (xs ++ x ∷ []) ≡ (list_any test xs || test x)
any_last test [] x = last (test x)
  where
    last : (b : Bool) → (b || false) ≡ b
    last true = refl
    last false = refl
any_last test (y ∷ ys) x = ap (λ r. test y || r) (any_last test ys x) ∙ grouped (test y) (list_any test ys) (test x)
  where
    grouped : (a b c : Bool) → (a || (b || c)) ≡ ((a || b) || c)
    grouped true b c = refl
    grouped false b c = refl

-- a test of all elements of a list with one more
pub all_last : {X : Type 0} (test : X → Bool) (xs : List X) (x : X) → list_all test (xs ++ x ∷ []) ≡ (list_all test xs && test x)
all_last test [] x = last (test x)
  where
    last : (b : Bool) → (b && true) ≡ b
    last true = refl
    last false = refl
all_last test (y ∷ ys) x = ap (λ r. test y && r) (all_last test ys x) ∙ grouped (test y) (list_all test ys) (test x)
  where
    grouped : (a b c : Bool) → (a && (b && c)) ≡ ((a && b) && c)
    grouped true b c = refl
    grouped false b c = refl
