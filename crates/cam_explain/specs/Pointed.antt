-- A line of the script with a caret under one of its columns.
use Rattle.std.specs.Prelude.{ℕ, zero, suc, ◌-◌, nat_lt, eqb, if◌then◌else◌, List, [], ◌∷◌, ◌++◌, length, get_or, codes}
use Rattle.std.specs.Str.Lossy.{utf8_lossy}

-- what stands before the caret under so many bytes of a line: a tab under a tab, else a blank
abbrev pub blanks : List ℕ → ℕ → List ℕ
blanks line zero = []
blanks line (suc n) = blanks line n ++ (if eqb (get_or line n 32) 9 then 9 else 32) ∷ []

-- A line that is too long for a person is left out. Columns count from 1.
abbrev pub pointed_text : List ℕ → ℕ → List ℕ
pointed_text line column =
    if nat_lt 400 (length line) then []
    else codes "    " ++ utf8_lossy line ++ codes "\n    " ++ blanks line (column - 1) ++ codes "^\n"
