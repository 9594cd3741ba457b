-- The lines of a script by their numbers, and the words of a line by their places.
use Rattle.std.specs.Prelude.{ℕ, suc, ◌+◌, ◌-◌, ◌==◌, ◌&&◌, ◌||◌, not, Bool, true, List, [], ◌∷◌, length, take, drop, get_or, slice_get, unwrap_or, if◌then◌else◌}

-- the line of this number, which counts from 1; an empty one if there is none
abbrev pub line_of : List (List ℕ) → ℕ → List ℕ
line_of lines number = if number == 0 then [] else unwrap_or (slice_get lines (number - 1)) []

-- blanks and tabs separate words
abbrev pub is_blank : ℕ → Bool
is_blank b = (b == 32) || (b == 9)

abbrev pub put_if : Bool → ℕ → List ℕ → List ℕ
put_if begins column columns = if begins then column ∷ columns else columns

-- the columns at which words begin, from a column on: behind a blank a word may begin there
abbrev pub starts : Bool → ℕ → List ℕ → List ℕ
starts behind_blank column [] = []
starts behind_blank column (b ∷ bs) =
    put_if (behind_blank && not (is_blank b)) column (starts (is_blank b) (column + 1) bs)

-- The column of a word by its place, from 0; the one behind the line if there is none. Columns count from 1.
abbrev pub column_of : List ℕ → ℕ → ℕ
column_of line place = get_or (starts true 1 line) place (suc (length line))

-- the bytes before the first blank
abbrev pub before_blank : List ℕ → List ℕ
before_blank [] = []
before_blank (b ∷ bs) = if is_blank b then [] else b ∷ before_blank bs

-- The word of a line by its place; an empty one if there is none.
abbrev pub word_of : List ℕ → ℕ → List ℕ
word_of line place = before_blank (drop (column_of line place - 1) line)

-- how many words of a line begin before a column
abbrev pub words_before : List ℕ → ℕ → ℕ
words_before line column = length (starts true 1 (take (column - 1) line))
