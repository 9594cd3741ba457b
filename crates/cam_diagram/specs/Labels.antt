-- The words of letters as SVG.
use Rattle.std.specs.Prelude.{ℕ, ◌+◌, ◌*◌, eqb, nat_lt, if◌then◌else◌, List, ◌++◌, codes, decimal}
use Rattle.cam_event.specs.declared.LetterId.{LetterId}
use Rattle.cam_xml.specs.WellFormed.{element_text, escaped}
use Rattle.cam_diagram.specs.declared.Kind.{Kind}
use Rattle.cam_diagram.specs.declared.Fate.{Fate}
use Rattle.cam_diagram.specs.declared.Arrow.{Arrow}
use Rattle.cam_diagram.specs.declared.Stub.{Stub}
use Rattle.cam_diagram.specs.declared.Caption.{Caption}
use Rattle.cam_diagram.specs.declared.places.Side.{Side}
use Rattle.cam_diagram.specs.declared.places.Side.TheVariants.{Right, Left}
use Rattle.cam_diagram.specs.Picture.{fate_word, kind_word}
use Rattle.cam_diagram.specs.Places.{is_letter_lit, letter_number, text_tag}
use Rattle.cam_diagram.specs.Marks.{mark_tag}
use Rattle.cam_diagram.specs.Stubs.{end_y, side_of}

unfoldable pub side_class : Side → List ℕ
side_class Right = codes "word behind"
side_class Left = codes "word before"

-- the word of a letter, and its number
unfoldable pub label : List Caption → Kind → LetterId → List ℕ
label captions kind letter =
    escaped (kind_word kind) ++ escaped (codes " ") ++ decimal (letter_number captions letter)

-- An arrow comes from the right, or from the left; from its own lane it comes from the left.
abbrev pub arrow_side : Arrow → Side
arrow_side a = if nat_lt a.to.node a.from.node then Right else Left

abbrev pub tip_x : Side → ℕ → ℕ
tip_x Right node = 70 + 120 * node
tip_x Left node = 10 + 120 * node

-- words are beside the tip of their arrow, or beside its bow if it comes from its own lane
abbrev pub arrow_words_x : Arrow → ℕ
arrow_words_x a = if eqb a.from.node a.to.node then 6 + 120 * a.to.node else tip_x (arrow_side a) a.to.node

-- the words of an arrow, in the row of the event that received the letter
unfoldable pub arrow_words : List Caption → Arrow → List ℕ
arrow_words captions a =
    element_text (codes "text")
    (text_tag (side_class (arrow_side a)) (arrow_words_x a) (81 + 28 * a.to.event))
    (label captions a.kind a.letter)

unfoldable pub arrow_label : List Caption → Arrow → List ℕ
arrow_label captions a =
    element_text (codes "g")
    (mark_tag captions (codes "label ") a.kind a.letter (is_letter_lit captions a.to.event))
    (arrow_words captions a)
    ++ codes "\n"

abbrev pub words_x : Side → Stub → ℕ
words_x Right s = 74 + 120 * s.from.node
words_x Left s = 6 + 120 * s.from.node

-- the word of a letter, its number, and what became of it
unfoldable pub fate_label : List Caption → Kind → LetterId → Fate → List ℕ
fate_label captions kind letter fate = label captions kind letter ++ escaped (fate_word fate)

unfoldable pub stub_words : List Caption → Stub → List ℕ
stub_words captions s =
    element_text (codes "text")
    (text_tag (side_class (side_of s)) (words_x (side_of s) s) (end_y s + 4))
    (fate_label captions s.kind s.letter s.fate)

unfoldable pub stub_label : List Caption → Stub → List ℕ
stub_label captions s =
    element_text (codes "g") (mark_tag captions (codes "label unheard ") s.kind s.letter s.lit) (stub_words captions s)
    ++ codes "\n"
