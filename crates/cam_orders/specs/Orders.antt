-- The orders of the lines of several families. `counts` says how many lines each family has.
use Rattle.std.specs.Prelude.{◌≡◌, ℕ, zero, suc, ◌+◌, ◌==◌, ◌↔◌, ◌⊎◌, nat_lt, List, [], ◌∷◌, ◌++◌, slice_index, if◌then◌else◌}
use Rattle.std.specs.List.{flat_map}

-- how often a family comes up in an order
abbrev pub times : ℕ → List ℕ → ℕ
times family [] = 0
times family (other ∷ order) = (if other == family then 1 else 0) + times family order

-- An order: each family comes up as often as it has lines, and no other does.
abbrev pub IsOrder : List ℕ → List ℕ → Type 0
IsOrder counts order = (family : ℕ) → times family order ≡ slice_index counts family

-- one of the list
abbrev pub IsOneOf : List ℕ → List (List ℕ) → Type 0
IsOneOf order [] = ⊥
IsOneOf order (other ∷ others) = (order ≡ other) ⊎ IsOneOf order others

-- no two are the same
abbrev pub AllDiffer : List (List ℕ) → Type 0
AllDiffer [] = Unit {0}
AllDiffer (order ∷ others) = (¬ (IsOneOf order others)) × AllDiffer others

-- Each order once, and nothing else.
pub record AreAll (counts : List ℕ) (orders : List (List ℕ)) : Type 0 where
  pub exactly : (order : List ℕ) → IsOneOf order orders ↔ IsOrder counts order
  pub once : AllDiffer orders

-- Orders, none of them twice.
pub record AreOrders (counts : List ℕ) (orders : List (List ℕ)) : Type 0 where
  pub only : (order : List ℕ) → IsOneOf order orders → IsOrder counts order
  pub once : AllDiffer orders

-- the beginnings that are one place longer, by the families from one on, which have so many lines
abbrev pub longer_from : ℕ → List ℕ → List ℕ → List (List ℕ)
longer_from family [] begun = []
longer_from family (count ∷ counts) begun =
    (if nat_lt (times family begun) count then (begun ++ family ∷ []) ∷ [] else [])
    ++ longer_from (family + 1) counts begun

abbrev pub longer : List ℕ → List ℕ → List (List ℕ)
longer counts begun = longer_from 0 counts begun

-- the beginnings of so many places
abbrev pub beginnings : List ℕ → ℕ → List (List ℕ)
beginnings counts zero = [] ∷ []
beginnings counts (suc n) = flat_map (longer counts) (beginnings counts n)
