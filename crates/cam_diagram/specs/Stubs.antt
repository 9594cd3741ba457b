-- Letters that no event received, as SVG.
use Rattle.std.specs.Prelude.{ℕ, ◌+◌, ◌*◌, nat_lt, if◌then◌else◌, List, ◌++◌, codes}
use Rattle.cam_xml.specs.WellFormed.{attribute_text, element_text, empty_element_text}
use Rattle.cam_diagram.specs.declared.Stub.{Stub}
use Rattle.cam_diagram.specs.declared.Caption.{Caption}
use Rattle.cam_diagram.specs.declared.places.Side.{Side}
use Rattle.cam_diagram.specs.declared.places.Side.TheVariants.{Right, Left}
use Rattle.cam_diagram.specs.Picture.{fate_shape}
use Rattle.cam_diagram.specs.Places.{point, set, set_number, translation, x_of, y_of}
use Rattle.cam_diagram.specs.Marks.{mark_tag}

-- a letter to the own node goes left
abbrev pub side_of : Stub → Side
side_of s = if nat_lt s.from.node s.to then Right else Left

abbrev pub end_x : Side → Stub → ℕ
end_x Right s = 66 + 120 * s.from.node
end_x Left s = 14 + 120 * s.from.node

-- stubs of one event end below one another
abbrev pub end_y : Stub → ℕ
end_y s = 88 + 28 * s.from.event + 10 * s.above

abbrev pub stub_way : Stub → List ℕ
stub_way s =
    attribute_text (codes "d")
    (point (codes "M") (x_of s.from.node) (y_of s.from.event) ++ point (codes "L") (end_x (side_of s) s) (end_y s))

unfoldable pub stub_shaft : Stub → List ℕ
stub_shaft s = empty_element_text (codes "path") (set (codes "class") (codes "shaft") ++ stub_way s)

unfoldable pub stub_end : Stub → List ℕ
stub_end s =
    empty_element_text (codes "path")
    (set (codes "class") (codes "fate") ++ translation (end_x (side_of s) s) (end_y s)
    ++ set (codes "d") (fate_shape s.fate))

unfoldable pub stub_tag : List Caption → Stub → List ℕ
stub_tag captions s =
    mark_tag captions (codes "letter unheard ") s.kind s.letter s.lit ++ set_number (codes "data-from") s.from.event

-- A stub: its shaft, and the mark at its end.
unfoldable pub stub_text : List Caption → Stub → List ℕ
stub_text captions s = element_text (codes "g") (stub_tag captions s) (stub_shaft s ++ stub_end s) ++ codes "\n"
