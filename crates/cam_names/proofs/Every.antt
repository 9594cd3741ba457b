-- What holds of every element of a list, and of every pair of elements in the list's order.
use Rattle.std.proofs.Common.{◌≡◌, Bool, true, false, List, [], ◌∷◌, refl, sym, subst, cond, ◌++◌, filter, map, reverse}
use Rattle.std.proofs.lemmas.Bool.{and_parts, and_from}
use Rattle.std.proofs.lemmas.List.{reverse-append}
use Rattle.std.specs.List.{list_all}

-- a fact of each element
abbrev pub Every : {X : Type 0} → (X → Type 0) → List X → Type 0
Every P [] = Unit {0}
Every P (x ∷ xs) = P x × Every P xs

-- a relation of each element to each later one
abbrev pub Pairs : {X : Type 0} → (X → X → Type 0) → List X → Type 0
Pairs R [] = Unit {0}
Pairs R (x ∷ xs) = Every (R x) xs × Pairs R xs

-- a weaker fact
pub every_weaker : {X : Type 0} (P Q : X → Type 0) (xs : List X) → ((x : X) → P x → Q x) → Every P xs → Every Q xs
every_weaker P Q [] more h = tt
every_weaker P Q (x ∷ xs) more h = (more x h.0, every_weaker P Q xs more h.1)

-- what holds of any element at all
pub every_any : {X : Type 0} (P : X → Type 0) (xs : List X) → ((x : X) → P x) → Every P xs
every_any P [] h = tt
every_any P (x ∷ xs) h = (h x, every_any P xs h)

-- two facts together
pub every_both : {X : Type 0} (P Q : X → Type 0) (xs : List X) → Every P xs → Every Q xs → Every (λ x. P x × Q x) xs
every_both P Q [] p q = tt
every_both P Q (x ∷ xs) p q = ((p.0, q.0), every_both P Q xs p.1 q.1)

-- one fact from another, where a third says how
pub every_then : {X : Type 0} (P Q : X → Type 0) (xs : List X) → Every (λ x. P x → Q x) xs → Every P xs → Every Q xs
every_then P Q [] h p = tt
every_then P Q (x ∷ xs) h p = (h.0 p.0, every_then P Q xs h.1 p.1)

-- a fact of both parts
pub every_append : {X : Type 0} (P : X → Type 0) (xs ys : List X) → Every P xs → Every P ys → Every P (xs ++ ys)
every_append P [] ys p q = q
every_append P (x ∷ xs) ys p q = (p.0, every_append P xs ys p.1 q)

-- what holds of the elements that pass holds of what a filter keeps
pub every_filter : {X : Type 0} (test : X → Bool) (P : X → Type 0) (xs : List X) → Every (λ x. test x ≡ true → P x) xs → Every P (filter test xs)
every_filter test P [] h = tt
every_filter {X} test P (x ∷ xs) h =
    elim (test x) as (λ b. (b ≡ true → P x) → Every P (cond b (x ∷ filter test xs) (filter test xs))) [
      | true ↦ λ here. (here refl, every_filter test P xs h.1)
      | false ↦ λ here. every_filter test P xs h.1
    ] h.0

-- and back
pub every_unfilter : {X : Type 0} (test : X → Bool) (P : X → Type 0) (xs : List X) → Every P (filter test xs) → Every (λ x. test x ≡ true → P x) xs
every_unfilter test P [] h = tt
every_unfilter {X} test P (x ∷ xs) h =
    elim (test x) as (λ b. Every P (cond b (x ∷ filter test xs) (filter test xs)) → (b ≡ true → P x) × Every (λ y. test y ≡ true → P y) xs) [
      | true ↦ λ g. ((λ e. g.0), every_unfilter test P xs g.1)
      | false ↦ λ g. ((λ e. cc), every_unfilter test P xs g)
    ] h

-- a weaker relation
pub pairs_weaker : {X : Type 0} (R S : X → X → Type 0) (xs : List X) → ((x y : X) → R x y → S x y) → Pairs R xs → Pairs S xs
pairs_weaker R S [] more h = tt
pairs_weaker R S (x ∷ xs) more h = (every_weaker (R x) (S x) xs (more x) h.0, pairs_weaker R S xs more h.1)

-- two relations together
pub pairs_both : {X : Type 0} (R S : X → X → Type 0) (xs : List X) → Pairs R xs → Pairs S xs → Pairs (λ x y. R x y × S x y) xs
pairs_both R S [] p q = tt
pairs_both R S (x ∷ xs) p q = (every_both (R x) (S x) xs p.0 q.0, pairs_both R S xs p.1 q.1)

-- a fact that does not speak of the element
pub every_const : {X : Type 0} (A : Type 0) (xs : List X) → A → Every (λ (x : X). A) xs
every_const A [] a = tt
every_const A (x ∷ xs) a = (a, every_const A xs a)

-- a fact of each element is one of each pair, for its first and for its second
pub pairs_first : {X : Type 0} (P : X → Type 0) (xs : List X) → Every P xs → Pairs (λ x y. P x) xs
pairs_first P [] h = tt
pairs_first P (x ∷ xs) h = (every_const (P x) xs h.0, pairs_first P xs h.1)

-- a fact of each element is one of the second of each pair
pub pairs_second : {X : Type 0} (P : X → Type 0) (xs : List X) → Every P xs → Pairs (λ x y. P y) xs
pairs_second P [] h = tt
pairs_second P (x ∷ xs) h = (h.1, pairs_second P xs h.1)

-- one more element at the end
pub pairs_push : {X : Type 0} (R : X → X → Type 0) (xs : List X) (y : X) → Pairs R xs → Every (λ x. R x y) xs → Pairs R (xs ++ y ∷ [])
pairs_push R [] y p h = (tt, tt)
pairs_push R (x ∷ xs) y p h = (every_append (R x) xs (y ∷ []) p.0 (h.0, tt), pairs_push R xs y p.1 h.1)

-- pairs of what a filter keeps
pub pairs_filter : {X : Type 0} (test : X → Bool) (R : X → X → Type 0) (xs : List X) → Pairs (λ x y. test x ≡ true → test y ≡ true → R x y) xs → Pairs R (filter test xs)
pairs_filter test R [] h = tt
pairs_filter {X} test R (x ∷ xs) h =
    elim (test x) as (λ b. Every (λ y. b ≡ true → test y ≡ true → R x y) xs → Pairs R (cond b (x ∷ filter test xs) (filter test xs))) [
      | true ↦ λ here. (every_filter test (R x) xs (every_weaker (λ y. true ≡ true → test y ≡ true → R x y) (λ y. test y ≡ true → R x y) xs (λ y g. g refl) here), pairs_filter test R xs h.1)
      | false ↦ λ here. pairs_filter test R xs h.1
    ] h.0

-- a test of all elements, as a fact of each
pub every_list_all : {X : Type 0} (test : X → Bool) (xs : List X) → list_all test xs ≡ true → Every (λ x. test x ≡ true) xs
every_list_all test [] h = tt
every_list_all test (x ∷ xs) h = let parts = and_parts (test x) (list_all test xs) h in (parts.0, every_list_all test xs parts.1)

-- a fact of each, as a test of all
pub list_all_every : {X : Type 0} (test : X → Bool) (xs : List X) → Every (λ x. test x ≡ true) xs → list_all test xs ≡ true
list_all_every test [] h = refl
list_all_every test (x ∷ xs) h = and_from (test x) (list_all test xs) h.0 (list_all_every test xs h.1)

-- what holds of each image
pub every_map : {X Y : Type 0} (P : Y → Type 0) (f : X → Y) (xs : List X) → Every (λ x. P (f x)) xs → Every P (map f xs)
every_map P f [] h = tt
every_map P f (x ∷ xs) h = (h.0, every_map P f xs h.1)

-- what holds of each pair of images
pub pairs_map : {X Y : Type 0} (R : Y → Y → Type 0) (f : X → Y) (xs : List X) → Pairs (λ x y. R (f x) (f y)) xs → Pairs R (map f xs)
pairs_map R f [] h = tt
pairs_map R f (x ∷ xs) h = (every_map (R (f x)) f xs h.0, pairs_map R f xs h.1)

-- what holds of each element, in reverse order
pub every_reverse : {X : Type 0} (P : X → Type 0) (xs : List X) → Every P xs → Every P (reverse xs)
every_reverse P [] h = tt
every_reverse P (x ∷ xs) h = subst (Every P) (sym (reverse-append (x ∷ []) xs)) (every_append P (reverse xs) (x ∷ []) (every_reverse P xs h.1) (h.0, tt))

-- a fact of the first part
pub every_left : {X : Type 0} (P : X → Type 0) (xs ys : List X) → Every P (xs ++ ys) → Every P xs
every_left P [] ys h = tt
every_left P (x ∷ xs) ys h = (h.0, every_left P xs ys h.1)
