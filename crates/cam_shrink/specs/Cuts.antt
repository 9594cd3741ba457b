-- Places of lines, counted from 0, and what is left of them if some go.
use Rattle.std.specs.Prelude.{◌≡◌, ℕ, zero, suc, ◌==◌, Bool, not, List, [], ◌∷◌, ◌++◌}
use Rattle.std.specs.List.{filter, list_any}

-- the places of so many lines
abbrev pub places_below : ℕ → List ℕ
places_below zero = []
places_below (suc n) = places_below n ++ n ∷ []

-- each of so many lines as a cut of its own
abbrev pub alone : ℕ → List (List ℕ)
alone zero = []
alone (suc n) = alone n ++ (n ∷ []) ∷ []

-- whether a place is one of a cut
abbrev pub is_cut : List ℕ → ℕ → Bool
is_cut cut place = list_any (λ other. other == place) cut

-- the places that are left if those of a cut go
abbrev pub without : List ℕ → List ℕ → List ℕ
without cut kept = filter (λ place. not (is_cut cut place)) kept

-- A part of a whole: those of its places, in its order, at which some test passes.
abbrev pub IsPart : List ℕ → List ℕ → Type 0
IsPart part whole = (is_kept : ℕ → Bool) × (part ≡ filter is_kept whole)
