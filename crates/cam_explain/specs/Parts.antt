-- Parts of sentences.
use Rattle.std.specs.Prelude.{ℕ, List, ◌++◌, codes, decimal}

-- ` (line 12)`
abbrev pub line_part : ℕ → List ℕ
line_part line = codes " (line " ++ decimal line ++ codes ")"
