-- Tests of all of a list, and what a search of it finds.
use Rattle.std.proofs.Common.{◌≡◌, Bool, true, false, ◌||◌, if◌then◌else◌, cond, List, [], ◌∷◌, filter, Option, Some, None, refl, sym, ap, ◌∙◌}
use Rattle.std.specs.Prelude.{find}
use Rattle.std.specs.List.{list_any, list_all}
use Rattle.std.proofs.lemmas.Bool.{and_parts, and_from}

-- tests of all of a list, and of what a filter keeps
pub all_parts : {X : Type 0} (t p q : X → Bool) (xs : List X) → ((x : X) → t x ≡ true → p x ≡ true → q x ≡ true) → list_all t xs ≡ true → list_all q (filter p xs) ≡ true
all_parts t p q [] more h = refl
all_parts {X} t p q (x ∷ xs) more h = by (p x) refl (all_parts t p q xs more parts.1)
  where
    parts : (t x ≡ true) × (list_all t xs ≡ true)
    parts = and_parts (t x) (list_all t xs) h

    by : (b : Bool) → p x ≡ b → list_all q (filter p xs) ≡ true → list_all q (cond b (x ∷ filter p xs) (filter p xs)) ≡ true
    by true e rest = and_from (q x) (list_all q (filter p xs)) (more x parts.0 e) rest
    by false e rest = rest

pub all_weaker : {X : Type 0} (p q : X → Bool) (xs : List X) → ((x : X) → p x ≡ true → q x ≡ true) → list_all p xs ≡ true → list_all q xs ≡ true
all_weaker p q [] more h = refl
all_weaker p q (x ∷ xs) more h = let parts = and_parts (p x) (list_all p xs) h in and_from (q x) (list_all q xs) (more x parts.0) (all_weaker p q xs more parts.1)

pub all_true : {X : Type 0} (xs : List X) → list_all (λ x. true) xs ≡ true
all_true [] = refl
all_true (x ∷ xs) = all_true xs

pub keeps_all : {X : Type 0} (p : X → Bool) (xs : List X) → list_all p xs ≡ true → filter p xs ≡ xs
keeps_all p [] h = refl
keeps_all {X} p (x ∷ xs) h =
    let parts = and_parts (p x) (list_all p xs) h in
    ap (λ b. cond b (x ∷ filter p xs) (filter p xs)) parts.0 ∙ ap (λ ys. x ∷ ys) (keeps_all p xs parts.1)

-- what a search finds passes, and where it finds nothing nothing does
pub found_passes : {X : Type 0} (t : X → Bool) (xs : List X) (y : X) → find t xs ≡ Some y → t y ≡ true
found_passes t [] y h = cc
found_passes {X} t (x ∷ xs) y h = by (t x) refl h (found_passes t xs y)
  where
    by : (b : Bool) → t x ≡ b → (if b then Some x else find t xs) ≡ Some y → (find t xs ≡ Some y → t y ≡ true) → t y ≡ true
    by true e g rest = let same : x ≡ y = cc in ap t (sym same) ∙ e
    by false e g rest = rest g

pub found_in : {X : Type 0} (t q : X → Bool) (xs : List X) (y : X) → list_all q xs ≡ true → find t xs ≡ Some y → q y ≡ true
found_in t q [] y all h = cc
found_in {X} t q (x ∷ xs) y all h = by (t x) h (found_in t q xs y parts.1)
  where
    parts : (q x ≡ true) × (list_all q xs ≡ true)
    parts = and_parts (q x) (list_all q xs) all

    by : (b : Bool) → (if b then Some x else find t xs) ≡ Some y → (find t xs ≡ Some y → q y ≡ true) → q y ≡ true
    by true g rest = let same : x ≡ y = cc in ap q (sym same) ∙ parts.0
    by false g rest = rest g

abbrev pub is_found : {X : Type 0} → Option X → Bool
is_found None = false
is_found (Some x) = true

pub find_any : {X : Type 0} (t : X → Bool) (xs : List X) → list_any t xs ≡ is_found (find t xs)
find_any t [] = refl
find_any {X} t (x ∷ xs) = by (t x) (find_any t xs)
  where
    by : (b : Bool) → list_any t xs ≡ is_found (find t xs) → (b || list_any t xs) ≡ is_found (if b then Some x else find t xs)
    by true rest = refl
    by false rest = rest
