-- The first node, in order, of which the least count is below the known one.
use Rattle.std.specs.Prelude.{ℕ, ◌+◌, ◌≤◌, nat_lt, ◌&&◌, if◌then◌else◌, List, [], ◌∷◌, Option, Some, None}

-- pairs of which no node and no count is 0
abbrev pub Valid : List (ℕ × ℕ) → Type 0
Valid [] = Unit {0}
Valid (p ∷ ps) = ((1 ≤ p.0) × (1 ≤ p.1)) × Valid ps

-- counts of the nodes from this one on, 0 if there is none
abbrev pub first_stale : (ℕ → ℕ) → ℕ → List ℕ → Option (ℕ × ℕ)
first_stale known node [] = None
first_stale known node (c ∷ cs) = if nat_lt 0 c && nat_lt c (known node) then Some (node, c) else first_stale known (node + 1) cs
