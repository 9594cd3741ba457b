-- What is one of a list of orders, and when no two of a list are the same.
use Rattle.std.proofs.Common.{◌≡◌, ◌⊎◌, ℕ, List, [], ◌∷◌, ◌++◌, refl, sym, subst, inl, inr}
use Rattle.std.specs.List.{flat_map}
use Rattle.cam_orders.specs.Orders.{IsOneOf, AllDiffer}

pub in_front : (x : List ℕ) (xs ys : List (List ℕ)) → IsOneOf x xs → IsOneOf x (xs ++ ys)
in_front x [] ys h = absurd h
in_front x (y ∷ xs) ys (inl e) = inl e
in_front x (y ∷ xs) ys (inr h) = inr (in_front x xs ys h)

pub in_back : (x : List ℕ) (xs ys : List (List ℕ)) → IsOneOf x ys → IsOneOf x (xs ++ ys)
in_back x [] ys h = h
in_back x (y ∷ xs) ys h = inr (in_back x xs ys h)

shifted : (x y : List ℕ) (xs ys : List (List ℕ)) → IsOneOf x xs ⊎ IsOneOf x ys → IsOneOf x (y ∷ xs) ⊎ IsOneOf x ys
shifted x y xs ys (inl h) = inl (inr h)
shifted x y xs ys (inr h) = inr h

pub in_either : (x : List ℕ) (xs ys : List (List ℕ)) → IsOneOf x (xs ++ ys) → IsOneOf x xs ⊎ IsOneOf x ys
in_either x [] ys h = inr h
in_either x (y ∷ xs) ys (inl e) = inl (inl e)
in_either x (y ∷ xs) ys (inr h) = shifted x y xs ys (in_either x xs ys h)

-- one of what f gives of a list comes from one of the list
pub record ComesFrom (f : List ℕ → List (List ℕ)) (x : List ℕ) (ys : List (List ℕ)) : Type 0 where
  pub source : List ℕ
  pub is_there : IsOneOf source ys
  pub gives : IsOneOf x (f source)

by_part : (f : List ℕ → List (List ℕ)) (x y : List ℕ) (ys : List (List ℕ))
    → (IsOneOf x (flat_map f ys) → ComesFrom f x ys)
    → IsOneOf x (f y) ⊎ IsOneOf x (flat_map f ys) → ComesFrom f x (y ∷ ys)
by_part f x y ys again (inl h) = record { source = y; is_there = inl refl; gives = h }
by_part f x y ys again (inr h) =
    let from = again h in
    record { source = from.source; is_there = inr from.is_there; gives = from.gives }

pub comes_from : (f : List ℕ → List (List ℕ)) (x : List ℕ) (ys : List (List ℕ)) → IsOneOf x (flat_map f ys) → ComesFrom f x ys
comes_from f x [] h = absurd h
comes_from f x (y ∷ ys) h = by_part f x y ys (comes_from f x ys) (in_either x (f y) (flat_map f ys) h)

pub goes_to : (f : List ℕ → List (List ℕ)) (x y : List ℕ) (ys : List (List ℕ))
    → IsOneOf y ys → IsOneOf x (f y) → IsOneOf x (flat_map f ys)
goes_to f x y [] h k = absurd h
goes_to f x y (z ∷ ys) (inl e) k =
    let P : List ℕ → Type 0 = λ w. IsOneOf x (f w) in
    in_front x (f z) (flat_map f ys) (subst P e k)
goes_to f x y (z ∷ ys) (inr h) k = in_back x (f z) (flat_map f ys) (goes_to f x y ys h k)

not_either : (x : List ℕ) (xs ys : List (List ℕ)) → (IsOneOf x xs → ⊥) → (IsOneOf x ys → ⊥) → IsOneOf x xs ⊎ IsOneOf x ys → ⊥
not_either x xs ys h k (inl one) = h one
not_either x xs ys h k (inr one) = k one

-- two lists, each without two that are the same, and with none in common
pub differ_both : (xs ys : List (List ℕ)) → AllDiffer xs → AllDiffer ys
    → ((x : List ℕ) → IsOneOf x xs → IsOneOf x ys → ⊥) → AllDiffer (xs ++ ys)
differ_both [] ys h k apart = k
differ_both (x ∷ xs) ys h k apart = (
  λ one. not_either x xs ys h.0 (apart x (inl refl)) (in_either x xs ys one),
  differ_both xs ys h.1 k (λ z front back. apart z (inr front) back),
)

-- what f gives of different ones differs
pub differ_flat : (f : List ℕ → List (List ℕ)) (ys : List (List ℕ)) → AllDiffer ys
    → ((y : List ℕ) → AllDiffer (f y))
    → ((x y z : List ℕ) → IsOneOf x (f y) → IsOneOf x (f z) → y ≡ z)
    → AllDiffer (flat_map f ys)
differ_flat f [] h each apart = tt
differ_flat f (y ∷ ys) h each apart =
    differ_both (f y) (flat_map f ys) (each y) (differ_flat f ys h.1 each apart)
    (λ x front back.
    let from = comes_from f x ys back in
    let P : List ℕ → Type 0 = λ w. IsOneOf w ys in
    h.0 (subst P (sym (apart x y from.source front from.gives)) from.is_there))
