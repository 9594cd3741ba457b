-- The words of a question: each ends at a newline.
use Rattle.std.specs.Prelude.{ℕ, ◌==◌, List, [], ◌∷◌, ◌++◌, if◌then◌else◌}
use Rattle.std.specs.Str.Lossy.{utf8_lossy}

-- the words of the rest of a question, in the midst of a word of which this was read
abbrev pub words_from : List ℕ → List ℕ → List (List ℕ)
words_from word [] = []
words_from word (b ∷ rest) =
    if b == 10 then utf8_lossy word ∷ words_from [] rest else words_from (word ++ b ∷ []) rest

abbrev pub words_in : List ℕ → List (List ℕ)
words_in question = words_from [] question
