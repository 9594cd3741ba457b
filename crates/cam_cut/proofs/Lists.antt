-- Members of lists that are filtered, mapped, joined and searched.
use Rattle.std.proofs.Common.{◌≡◌, ◌⊎◌, inl, inr, cond, if◌then◌else◌, ℕ, Bool, true, false, ◌&&◌, List, [], ◌∷◌, filter, find, Some, None, refl, sym, ◌∙◌, subst, ◌||◌, zero, suc, map, reverse}
use Rattle.std.specs.Prelude.{flat_map, slice_get}
use Rattle.std.proofs.lemmas.Bool.{and_parts, or_cases, or_left, or_right, and_from}
use Rattle.cam_event.proofs.Members.{In, in_append, in_left, in_right}
use Rattle.cam_event.proofs.Snoc.{filter_filter, filter_same}
use Rattle.cam_names.proofs.Every.{Every}
use Rattle.std.specs.List.{list_any, list_all}
use Rattle.std.proofs.lemmas.Option.{same_Some}
use Rattle.std.proofs.lemmas.List.{reverse-append}
use Rattle.cam_event.proofs.LiveLaws.{and_comm}

-- what is in a list of which a filter keeps nothing fails
pub filter_none : {X : Type 0} (p : X → Bool) (xs : List X) (x : X) → filter p xs ≡ [] → In x xs → p x ≡ false
filter_none p [] x h i = absurd i
filter_none {X} p (y ∷ xs) x h i = by (p y) refl h i (filter_none p xs x)
  where
    by : (b : Bool) → p y ≡ b → cond b (y ∷ filter p xs) (filter p xs) ≡ [] → (x ≡ y) ⊎ In x xs → (filter p xs ≡ [] → In x xs → p x ≡ false) → p x ≡ false
    by true e g j rest = cc
    by false e g (inl same) rest = subst (λ z. p z ≡ false) (sym same) e
    by false e g (inr r) rest = rest g r

-- a filter keeps nothing where all fail
pub none_filter : {X : Type 0} (p : X → Bool) (xs : List X) → ((x : X) → In x xs → p x ≡ false) → filter p xs ≡ []
none_filter p [] h = refl
none_filter {X} p (y ∷ xs) h = rw (h y (inl refl)) (none_filter p xs (λ x i. h x (inr i)))

-- a member of a part is one of all parts together
pub in_flat : {X Y : Type 0} (f : X → List Y) (xs : List X) (x : X) (y : Y) → In x xs → In y (f x) → In y (flat_map f xs)
in_flat f [] x y h g = absurd h
in_flat f (z ∷ xs) x y (inl e) g = in_left (f z) (flat_map f xs) y (subst (λ k. In y (f k)) e g)
in_flat f (z ∷ xs) x y (inr r) g = in_right (f z) (flat_map f xs) y (in_flat f xs x y r g)

-- a member of all parts together is one of some part
pub flat_in : {X Y : Type 0} (f : X → List Y) (xs : List X) (y : Y) → In y (flat_map f xs) → (x : X) × In x xs × In y (f x)
flat_in f [] y h = absurd h
flat_in f (z ∷ xs) y h = elim (in_append (f z) (flat_map f xs) y h) [
  | inl l ↦ (z, inl refl, l)
  | inr r ↦ let rest = flat_in f xs y r in (rest.0, inr rest.1, rest.2)
]

-- a filter that drops nothing of a list
pub filter_each : {X : Type 0} (p : X → Bool) (xs : List X) → ((x : X) → In x xs → p x ≡ true) → filter p xs ≡ xs
filter_each p [] h = refl
filter_each {X} p (x ∷ xs) h = λ i. cond (h x (inl refl) i) (x ∷ filter_each p xs (λ y k. h y (inr k)) i) (filter_each p xs (λ y k. h y (inr k)) i)

-- two filters in the other order
pub filter_swap : {X : Type 0} (p q : X → Bool) (xs : List X) → filter p (filter q xs) ≡ filter q (filter p xs)
filter_swap p q xs = filter_filter p q xs ∙ filter_same (λ x. q x && p x) (λ x. p x && q x) xs (λ x. and_comm (q x) (p x)) ∙ sym (filter_filter q p xs)

-- a filter of one list or another
pub filter_cond : {X : Type 0} (p : X → Bool) (b : Bool) (xs ys : List X) → filter p (if b then xs else ys) ≡ (if b then filter p xs else filter p ys)
filter_cond p true xs ys = refl
filter_cond p false xs ys = refl

-- what a filter keeps passes
pub filter_keeps : {X : Type 0} (p q : X → Bool) (xs : List X) → list_any p (filter q xs) ≡ true → list_any p xs ≡ true
filter_keeps p q [] h = cc
filter_keeps {X} p q (x ∷ xs) h = elim (q x) as (λ b. list_any p (cond b (x ∷ filter q xs) (filter q xs)) ≡ true → (p x || list_any p xs) ≡ true) [
  | true ↦ λ g. elim (or_cases (p x) (list_any p (filter q xs)) g) [ inl e ↦ or_left (p x) (list_any p xs) e | inr r ↦ or_right (p x) (list_any p xs) (filter_keeps p q xs r) ]
  | false ↦ λ g. or_right (p x) (list_any p xs) (filter_keeps p q xs g)
] h

-- a place of a list that has an element has a member
pub slice_in : {X : Type 0} (xs : List X) (i : ℕ) (x : X) → slice_get xs i ≡ Some x → In x xs
slice_in [] i x h = cc
slice_in (y ∷ xs) zero x h = inl (same_Some x y (sym h))
slice_in (y ∷ xs) (suc i) x h = inr (slice_in xs i x h)

-- what holds of each element holds of one
pub every_in : {X : Type 0} (P : X → Type 0) (xs : List X) (x : X) → Every P xs → In x xs → P x
every_in P [] x h i = absurd i
every_in P (y ∷ xs) x h (inl e) = subst P (sym e) h.0
every_in P (y ∷ xs) x h (inr r) = every_in P xs x h.1 r

-- what a filter keeps is in the list and passes
pub in_filter : {X : Type 0} (p : X → Bool) (xs : List X) (x : X) → In x (filter p xs) → In x xs × (p x ≡ true)
in_filter p [] x h = absurd h
in_filter {X} p (y ∷ xs) x h = by (p y) refl h (in_filter p xs x)
  where
    by : (b : Bool) → p y ≡ b → In x (cond b (y ∷ filter p xs) (filter p xs)) → (In x (filter p xs) → In x xs × (p x ≡ true)) → ((x ≡ y) ⊎ In x xs) × (p x ≡ true)
    by true e (inl same) rest = (inl same, subst (λ z. p z ≡ true) (sym same) e)
    by true e (inr r) rest = let k = rest r in (inr k.0, k.1)
    by false e r rest = let k = rest r in (inr k.0, k.1)

-- none is found where none passes
pub none_passes : {X : Type 0} (p : X → Bool) (xs : List X) → ((x : X) → In x xs → p x ≡ false) → find p xs ≡ None
none_passes p [] h = refl
none_passes {X} p (x ∷ xs) h = rw (h x (inl refl)) (none_passes p xs (λ y i. h y (inr i)))

-- a reversed list has the same members
pub in_reverse : {X : Type 0} (xs : List X) (x : X) → In x (reverse xs) → In x xs
in_reverse [] x h = h
in_reverse (y ∷ xs) x h = elim (in_append (reverse xs) (y ∷ []) x (subst (In x) (reverse-append (y ∷ []) xs) h)) [
  | inl r ↦ inr (in_reverse xs x r)
  | inr (inl e) ↦ inl e
  | inr (inr r) ↦ absurd r
]

-- a filter that drops nothing of a list
pub filter_true : {X : Type 0} (p : X → Bool) (xs : List X) → ((x : X) → p x ≡ true) → filter p xs ≡ xs
filter_true p [] h = refl
filter_true {X} p (x ∷ xs) h = λ i. cond (h x i) (x ∷ filter_true p xs h i) (filter_true p xs h i)

-- two tests that agree on what a filter keeps find the same in it
pub find_kept : {X : Type 0} (p r q : X → Bool) (xs : List X) → ((x : X) → q x ≡ true → p x ≡ r x) → find p (filter q xs) ≡ find r (filter q xs)
find_kept p r q [] h = refl
find_kept {X} p r q (x ∷ xs) h = by (q x) refl (find_kept p r q xs h)
  where
    by : (b : Bool) → q x ≡ b → find p (filter q xs) ≡ find r (filter q xs) → find p (cond b (x ∷ filter q xs) (filter q xs)) ≡ find r (cond b (x ∷ filter q xs) (filter q xs))
    by true e rest = λ i. cond (h x e i) (Some x) (rest i)
    by false e rest = rest

-- what is found in a filter passes it
pub found_kept : {X : Type 0} (p q : X → Bool) (xs : List X) (y : X) → find p (filter q xs) ≡ Some y → q y ≡ true
found_kept p q [] y h = cc
found_kept {X} p q (x ∷ xs) y h = by (q x) refl h (found_kept p q xs y)
  where
    by : (b : Bool) → q x ≡ b → find p (cond b (x ∷ filter q xs) (filter q xs)) ≡ Some y → (find p (filter q xs) ≡ Some y → q y ≡ true) → q y ≡ true
    by true e g rest = elim (p x) as (λ b. cond b (Some x) (find p (filter q xs)) ≡ Some y → q y ≡ true) [
      | true ↦ λ k. subst (λ z. q z ≡ true) (same_Some x y k) e
      | false ↦ λ k. rest k
    ] g
    by false e g rest = rest g

-- a member of a mapped list is the image of one
pub in_image : {X Y : Type 0} (f : X → Y) (xs : List X) (y : Y) → In y (map f xs) → (x : X) × In x xs × (y ≡ f x)
in_image f [] y h = absurd h
in_image f (x ∷ xs) y (inl e) = (x, inl refl, e)
in_image f (x ∷ xs) y (inr r) = let rest = in_image f xs y r in (rest.0, inr rest.1, rest.2)

-- what passes for each element passes for all
pub all_in : {X : Type 0} (p : X → Bool) (xs : List X) → ((x : X) → In x xs → p x ≡ true) → list_all p xs ≡ true
all_in p [] h = refl
all_in p (x ∷ xs) h = and_from (p x) (list_all p xs) (h x (inl refl)) (all_in p xs (λ y i. h y (inr i)))

-- and back
pub in_all : {X : Type 0} (p : X → Bool) (xs : List X) (x : X) → list_all p xs ≡ true → In x xs → p x ≡ true
in_all p [] x h i = absurd i
in_all p (y ∷ xs) x h (inl e) = subst (λ z. p z ≡ true) (sym e) (and_parts (p y) (list_all p xs) h).0
in_all p (y ∷ xs) x h (inr r) = in_all p xs x (and_parts (p y) (list_all p xs) h).1 r
