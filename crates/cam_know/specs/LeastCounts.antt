-- For each node the least count that some pairs have of it, as eight counts, 0 if there is no pair.
use Rattle.std.specs.Prelude.{ℕ, eqb, min, if◌then◌else◌, List, [], ◌∷◌}

-- the lesser of two counts, where 0 means none
abbrev pub lesser_count : ℕ → ℕ → ℕ
lesser_count x y = if eqb x 0 then y else (if eqb y 0 then x else min x y)

-- the least count that the pairs have of a node, 0 if they have none
abbrev pub least_count : List (ℕ × ℕ) → ℕ → ℕ
least_count [] node = 0
least_count (p ∷ ps) node =
    if eqb p.0 node then lesser_count p.1 (least_count ps node) else least_count ps node

abbrev pub least_counts : List (ℕ × ℕ) → List ℕ
least_counts ps =
    least_count ps 1 ∷ least_count ps 2 ∷ least_count ps 3 ∷ least_count ps 4 ∷ least_count ps 5
    ∷ least_count ps 6 ∷ least_count ps 7 ∷ least_count ps 8 ∷ []

-- the lesser count at each node
abbrev pub lesser_counts : List ℕ → List ℕ → List ℕ
lesser_counts [] ds = ds
lesser_counts (c ∷ cs) [] = c ∷ cs
lesser_counts (c ∷ cs) (d ∷ ds) = lesser_count c d ∷ lesser_counts cs ds
