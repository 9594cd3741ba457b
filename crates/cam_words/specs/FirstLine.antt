-- The first line of a text, as it is taken off the text.
use Rattle.std.specs.Prelude.{ℕ, ◌==◌, suc, List, [], ◌∷◌, if◌then◌else◌}

-- how many bytes are before the first LF, or in all
abbrev pub line_len : List ℕ → ℕ
line_len [] = 0
line_len (b ∷ bs) = if b == 10 then 0 else suc (line_len bs)

-- a line without a CR at its end
abbrev pub without_cr : List ℕ → List ℕ
without_cr [] = []
without_cr (b ∷ []) = if b == 13 then [] else b ∷ []
without_cr (b ∷ c ∷ bs) = b ∷ without_cr (c ∷ bs)
