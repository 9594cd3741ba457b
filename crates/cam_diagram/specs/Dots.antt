-- Dots as SVG, with the words of their events.
use Rattle.std.specs.declared.alloc.Global.{Global}
use Rattle.std.specs.Prelude.{ℕ, ◌+◌, ◌*◌, nat_lt, Bool, true, false, Option, String, List, [], ◌∷◌, ◌++◌, slice_get, codes, decimal, string_bytes}
use Rattle.std.specs.Option.{option_map_or}
use Rattle.cam_xml.specs.WellFormed.{element_text, empty_element_text, escaped}
use Rattle.cam_diagram.specs.declared.Dot.{Dot}
use Rattle.cam_diagram.specs.declared.Caption.{Caption}
use Rattle.cam_diagram.specs.Picture.{sign_shape, sign_word}
use Rattle.cam_diagram.specs.Places.{class_of, is_lit, numbered, set, set_number, text_tag, translation, x_of, y_of}

unfoldable pub deeds_title : List ℕ → List ℕ
deeds_title deeds = element_text (codes "title") [] (escaped deeds)

unfoldable pub words_tag : ℕ → ℕ → Caption → List ℕ
words_tag x y c = text_tag (codes "words") x y ++ set (codes "data-action") (string_bytes c.action)

unfoldable pub words_text : ℕ → ℕ → Caption → List ℕ
words_text x y c = element_text (codes "text") (words_tag x y c) (escaped (string_bytes c.words))

unfoldable pub beside : ℕ → ℕ → List ℕ → List ℕ
beside x y words =
    element_text (codes "text") (text_tag (codes "beside") x y) (escaped words)

abbrev pub beside_at : ℕ → Dot → Option (String Global) → List ℕ
beside_at number dot words =
    option_map_or (λ text. beside (58 + 120 * dot.node) (80 + 28 * number) (string_bytes text)) words []

unfoldable pub line_text : ℕ → ℕ → List ℕ
line_text y line =
    element_text (codes "text") (text_tag (codes "line") 40 y) (decimal line)

-- the caption of the event of a number: its deeds, its words, what is beside it, its line
unfoldable pub caption_text : ℕ → ℕ → Dot → Caption → List ℕ
caption_text right number dot c =
    deeds_title (string_bytes c.deeds) ++ words_text right (80 + 28 * number) c
    ++ beside_at number dot c.beside
    ++ line_text (80 + 28 * number) c.line

abbrev pub caption_at : List Caption → ℕ → ℕ → Dot → List ℕ
caption_at captions right number dot =
    option_map_or (caption_text right number dot) (slice_get captions number) []

unfoldable pub dot_tag : List Caption → ℕ → Dot → List ℕ
dot_tag captions number dot =
    class_of (codes "event ") (sign_word dot.sign) (is_lit captions number)
    ++ numbered (codes "id") (codes "e") number
    ++ set_number (codes "data-event") number

unfoldable pub dot_shape : ℕ → Dot → List ℕ
dot_shape number dot =
    empty_element_text (codes "path")
    (set (codes "class") (codes "sign") ++ translation (x_of dot.node) (y_of number)
    ++ set (codes "d") (sign_shape dot.sign))

-- numbers of four digits are small
unfoldable pub number_class : Bool → List ℕ
number_class true = codes "number"
number_class false = codes "number small"

unfoldable pub dot_number : ℕ → Dot → List ℕ
dot_number number dot =
    element_text (codes "text")
    (text_tag (number_class (nat_lt number 1000)) (x_of dot.node) (y_of number + 4)) (decimal number)

unfoldable pub dot_parts : List Caption → ℕ → ℕ → Dot → List ℕ
dot_parts captions right number dot =
    caption_at captions right number dot ++ dot_shape number dot ++ dot_number number dot

-- The dot of the event of a number: its caption, its sign, and its number on that.
unfoldable pub dot_text : List Caption → ℕ → ℕ → Dot → List ℕ
dot_text captions right number dot =
    element_text (codes "g") (dot_tag captions number dot) (dot_parts captions right number dot) ++ codes "\n"

-- dots, of which the first is of the event of this number
abbrev pub dots_text : List Caption → ℕ → ℕ → List Dot → List ℕ
dots_text captions right number [] = []
dots_text captions right number (dot ∷ more) =
    dot_text captions right number dot ++ dots_text captions right (number + 1) more
