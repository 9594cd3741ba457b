-- Arrows as SVG.
use Rattle.std.specs.Prelude.{ℕ, ◌+◌, ◌*◌, eqb, Bool, ◌||◌, nat_lt, if◌then◌else◌, List, ◌++◌, codes}
use Rattle.cam_event.specs.declared.LetterId.{LetterId}
use Rattle.cam_xml.specs.WellFormed.{attribute_text, element_text, empty_element_text}
use Rattle.cam_diagram.specs.declared.Kind.{Kind}
use Rattle.cam_diagram.specs.declared.Spot.{Spot}
use Rattle.cam_diagram.specs.declared.Arrow.{Arrow}
use Rattle.cam_diagram.specs.declared.Caption.{Caption}
use Rattle.cam_diagram.specs.Picture.{kind_class}
use Rattle.cam_diagram.specs.Places.{class_of, is_letter_lit, letter_number, point, set, set_number, x_of, y_of}

-- whether lanes are between those of two nodes
abbrev pub are_apart : ℕ → ℕ → Bool
are_apart node other = nat_lt (node + 1) other || nat_lt (other + 1) node

-- a path to the next lane is straight; one farther off is bent, round the dots of lanes between
abbrev pub sag : Spot → Spot → ℕ
sag from to = if are_apart from.node to.node then 0 else 28

unfoldable pub across : Spot → Spot → List ℕ
across from to =
    point (codes "M") (x_of from.node) (y_of from.event)
    ++ point (codes "Q") (40 + 60 * (from.node + to.node)) (48 + 14 * (from.event + to.event) + sag from to)
    ++ point (codes " ") (x_of to.node) (y_of to.event)

unfoldable pub looped : Spot → Spot → List ℕ
looped from to =
    point (codes "M") (x_of from.node) (y_of from.event)
    ++ point (codes "C") (120 * from.node) (82 + 28 * from.event)
    ++ point (codes " ") (120 * from.node) (70 + 28 * to.event)
    ++ point (codes " ") (x_of to.node) (y_of to.event)

-- A path to the own lane makes a bow at its left.
abbrev pub arrow_path : Arrow → List ℕ
arrow_path a = if eqb a.from.node a.to.node then looped a.from a.to else across a.from a.to

-- what is drawn of a letter tells by its look what the letter is for, and has its number
unfoldable pub mark_tag : List Caption → List ℕ → Kind → LetterId → Bool → List ℕ
mark_tag captions class kind letter lit =
    class_of class (kind_class kind) lit ++ set_number (codes "data-letter") (letter_number captions letter)

-- the numbers of the events of an arrow
unfoldable pub ends : Arrow → List ℕ
ends a = set_number (codes "data-from") a.from.event ++ set_number (codes "data-to") a.to.event

-- an arrow is lit if its letter is, at the event that received it
unfoldable pub arrow_tag : List Caption → Arrow → List ℕ
arrow_tag captions a =
    mark_tag captions (codes "letter ") a.kind a.letter (is_letter_lit captions a.to.event) ++ ends a

-- the way of an arrow, as the attribute of its path
abbrev pub way : Arrow → List ℕ
way a = attribute_text (codes "d") (arrow_path a)

unfoldable pub shaft : Arrow → List ℕ
shaft a = empty_element_text (codes "path") (set (codes "class") (codes "shaft") ++ way a)

-- An arrow: its shaft.
unfoldable pub arrow_text : List Caption → Arrow → List ℕ
arrow_text captions a = element_text (codes "g") (arrow_tag captions a) (shaft a) ++ codes "\n"
