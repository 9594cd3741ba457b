-- Where the shapes of a diagram are, in pixels, and how they are lit.
use Rattle.std.specs.Prelude.{ℕ, ◌+◌, ◌*◌, Bool, true, false, List, [], ◌++◌, slice_get, codes, decimal}
use Rattle.std.specs.Option.{option_map_or}
use Rattle.cam_event.specs.declared.LetterId.{LetterId}
use Rattle.cam_xml.specs.WellFormed.{attribute_text, escaped}
use Rattle.cam_diagram.specs.declared.Caption.{Caption}

-- the lane of a node, and the row of an event
abbrev pub x_of : ℕ → ℕ
x_of node = 40 + 120 * node

abbrev pub y_of : ℕ → ℕ
y_of event = 76 + 28 * event

-- Letters are numbered from 1, in order of sending.
abbrev pub letter_number : List Caption → LetterId → ℕ
letter_number captions letter =
    option_map_or (λ c. c.sent_before + letter.place + 1) (slice_get captions letter.event) 0

abbrev pub is_lit : List Caption → ℕ → Bool
is_lit captions event = option_map_or (λ c. c.lit) (slice_get captions event) true

-- whether the letter is lit that an event received
abbrev pub is_letter_lit : List Caption → ℕ → Bool
is_letter_lit captions event = option_map_or (λ c. c.lit_letter) (slice_get captions event) true

unfoldable pub dim : Bool → List ℕ
dim true = []
dim false = codes " dim"

-- attributes whose value is text, and a number
abbrev pub set : List ℕ → List ℕ → List ℕ
set name value = attribute_text name (escaped value)

abbrev pub set_number : List ℕ → ℕ → List ℕ
set_number name value = attribute_text name (decimal value)

-- an attribute whose value is a mark and a number
abbrev pub numbered : List ℕ → List ℕ → ℕ → List ℕ
numbered name mark number = attribute_text name (escaped mark ++ decimal number)

abbrev pub class_of : List ℕ → List ℕ → Bool → List ℕ
class_of class more lit = attribute_text (codes "class") (escaped class ++ escaped more ++ escaped (dim lit))

unfoldable pub point : List ℕ → ℕ → ℕ → List ℕ
point mark x y = escaped mark ++ decimal x ++ escaped (codes " ") ++ decimal y

abbrev pub translation : ℕ → ℕ → List ℕ
translation x y = attribute_text (codes "transform") (point (codes "translate(") x y ++ escaped (codes ")"))

abbrev pub place : ℕ → ℕ → List ℕ
place x y = set_number (codes "x") x ++ set_number (codes "y") y

-- the attributes of a text: its class and its place
unfoldable pub text_tag : List ℕ → ℕ → ℕ → List ℕ
text_tag class x y = set (codes "class") class ++ place x y
