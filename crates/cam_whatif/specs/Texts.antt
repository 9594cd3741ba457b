-- The text of some lines.
use Rattle.std.specs.Prelude.{ℕ, ◌==◌, ◌&&◌, Bool, false, true, List, [], ◌∷◌, ◌++◌, slice_get, if◌then◌else◌}
use Rattle.std.specs.List.{flat_map, list_any}
use Rattle.std.specs.Option.{option_map_or}
use Rattle.cam_words.specs.Lines.{lines_of}

-- the line at a place, with its end
abbrev pub line_at : List (List ℕ) → ℕ → List ℕ
line_at lines place = option_map_or (λ (line : List ℕ). line ++ 10 ∷ []) (slice_get lines place) []

-- the lines at these places, as a text
abbrev pub text_at : List (List ℕ) → List ℕ → List ℕ
text_at lines places = flat_map (line_at lines) places

-- what comes behind the word with which a line begins
abbrev pub behind_word : List ℕ → List ℕ
behind_word [] = []
behind_word (byte ∷ rest) = if byte == 32 then byte ∷ rest else behind_word rest

-- no byte is left
abbrev pub is_end : List ℕ → Bool
is_end [] = true
is_end (byte ∷ rest) = false

-- a byte, and then a rest that passes
abbrev pub begins_like : ℕ → (List ℕ → Bool) → List ℕ → Bool
begins_like first passes [] = false
begins_like first passes (byte ∷ rest) = (byte == first) && passes rest

-- A line is like another one, in which a `*` stands for the rest of a word, whatever it is.
abbrev pub is_like : List ℕ → List ℕ → Bool
is_like [] line = is_end line
is_like (first ∷ wanted) line =
    if first == 42 then is_like wanted (behind_word line) else begins_like first (is_like wanted) line

-- whether a text has a line like this
abbrev pub has_line : List ℕ → List ℕ → Bool
has_line wanted text = list_any (is_like wanted) (lines_of text)
