-- The columns as text: each row in the lane of its node, behind the numbers of its event and of its line.
use Rattle.std.specs.Prelude.{ℕ, zero, suc, ◌+◌, ◌-◌, ◌*◌, Bool, List, [], ◌∷◌, ◌++◌, length, map, replicate, Option, Some, None, nat_eq, codes, decimal, string_bytes, if◌then◌else◌}
use Rattle.std.specs.List.{flat_map}
use Rattle.cam_columns.specs.declared.rows.Row.{Row}

-- a text with blanks behind it up to a width; a longer one as it is
abbrev pub padded : ℕ → List ℕ → List ℕ
padded width text = text ++ replicate (width - length text) 32

-- a text with blanks before it up to a width
abbrev pub indented : ℕ → List ℕ → List ℕ
indented width text = replicate (width - length text) 32 ++ text

-- the lane of an event's node, or that of another
abbrev pub lane : Bool → List ℕ → List ℕ → List ℕ
lane own mark text = if own then mark ++ text else codes "|"

-- the first so many lanes behind a text: each begins at a place of its own, and the one of this node has the mark and the text
abbrev pub lanes : List ℕ → ℕ → List ℕ → List ℕ → ℕ → List ℕ
lanes front node mark text zero = front
lanes front node mark text (suc n) = padded (12 + 22 * n) (lanes front node mark text n) ++ lane (nat_eq (n + 1) node) mark text

abbrev pub line_text : List ℕ → ℕ → ℕ → List ℕ → List ℕ → List ℕ
line_text front nodes node mark text = lanes front node mark text nodes ++ 10 ∷ []

abbrev pub number_text : ℕ → ℕ → List ℕ
number_text width number = indented width (decimal number)

-- the number of the event, and that of the line if there is one
abbrev pub line_number : Option ℕ → List ℕ
line_number None = []
line_number (Some line) = number_text 5 line

abbrev pub numbers : Row → List ℕ
numbers row = number_text 5 row.event ++ line_number row.line

-- a line of a cell behind the first one
abbrev pub continued : ℕ → ℕ → List ℕ → List ℕ
continued nodes node text = line_text [] nodes node (codes "| ") text

abbrev pub cell_text : List ℕ → ℕ → ℕ → List (List ℕ) → List ℕ
cell_text front nodes node [] = line_text front nodes node (codes "*") []
cell_text front nodes node (first ∷ rest) =
    line_text front nodes node (codes "* ") first ++ flat_map (continued nodes node) rest

-- the lines of a row
abbrev pub row_text : ℕ → Row → List ℕ
row_text nodes row = cell_text (numbers row) nodes row.node (map string_bytes row.cell)

-- the heads of the first so many lanes
abbrev pub heads : ℕ → List ℕ
heads zero = codes "event line"
heads (suc n) = padded (12 + 22 * n) (heads n) ++ codes "node " ++ decimal (n + 1)

-- The whole text.
abbrev pub columns_text : ℕ → List Row → List ℕ
columns_text nodes rows = heads nodes ++ 10 ∷ [] ++ flat_map (row_text nodes) rows
