-- A table of words, as the code has it.
use Rattle.std.specs.Prelude.{ℕ, List, map}
use Rattle.std.specs.Borrow.{Bor}

-- its rows, each a word and what the table has for it
abbrev pub entries : {A : Type 0} → List (Bor (List ℕ) × A) → List (List ℕ × A)
entries rows = map (λ row. (row.0.now, row.1)) rows
