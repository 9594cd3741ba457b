-- Lanes and halts as SVG.
use Rattle.std.specs.declared.alloc.Global.{Global}
use Rattle.std.specs.Prelude.{ℕ, ◌+◌, ◌*◌, String, List, [], ◌∷◌, ◌++◌, codes, decimal, string_bytes}
use Rattle.cam_xml.specs.WellFormed.{attribute_text, element_text, empty_element_text, escaped}
use Rattle.cam_diagram.specs.declared.Halt.{Halt}
use Rattle.cam_diagram.specs.Places.{point, set, text_tag, translation, x_of}

-- the way of a path, downwards
abbrev pub drop_of : ℕ → ℕ → ℕ → List ℕ
drop_of x from to = attribute_text (codes "d") (point (codes "M") x from ++ escaped (codes "V") ++ decimal to)

-- a path of a class, downwards
unfoldable pub vertical : List ℕ → ℕ → ℕ → ℕ → List ℕ
vertical class x from to = empty_element_text (codes "path") (set (codes "class") class ++ drop_of x from to)

unfoldable pub head : ℕ → ℕ → List ℕ
head x node =
    element_text (codes "text") (text_tag (codes "head") x 24)
    (escaped (codes "node ") ++ decimal node)

unfoldable pub kept : ℕ → List ℕ → List ℕ
kept x objects =
    element_text (codes "text") (text_tag (codes "kept") x 40) (escaped objects)

-- a lane with so many at its left: its node, what that keeps, and a line
unfoldable pub lane_text : ℕ → ℕ → List ℕ → List ℕ
lane_text bottom left objects =
    head (160 + 120 * left) (left + 1) ++ kept (160 + 120 * left) objects
    ++ vertical (codes "lane") (160 + 120 * left) 48 bottom ++ codes "\n"

abbrev pub lanes_text : ℕ → ℕ → List (String Global) → List ℕ
lanes_text bottom left [] = []
lanes_text bottom left (objects ∷ more) =
    lane_text bottom left (string_bytes objects) ++ lanes_text bottom (left + 1) more

-- a box with two bars
unfoldable pub halt_mark : ℕ → ℕ → List ℕ
halt_mark x y =
    empty_element_text (codes "path")
    (set (codes "class") (codes "pause") ++ translation x y
    ++ set (codes "d") (codes "M-7 -7h14v14h-14zM-2 -4v8M2 -4v8"))

unfoldable pub halt_words : ℕ → ℕ → List ℕ → List ℕ
halt_words x y words =
    element_text (codes "text") (text_tag (codes "beside") x y) (escaped words)

-- A halt, below the events above it: the lane is dotted until the row of the event that ends it.
unfoldable pub halt_lane : Halt → List ℕ
halt_lane h =
    vertical (codes "gap") (x_of h.node) (62 + 28 * h.above) (62 + 28 * h.until)
    ++ vertical (codes "halted") (x_of h.node) (62 + 28 * h.above) (62 + 28 * h.until) ++ codes "\n"

-- its mark and its words, where it begins
unfoldable pub halt_label : Halt → List ℕ
halt_label h =
    halt_mark (x_of h.node + 18) (62 + 28 * h.above)
    ++ halt_words (x_of h.node + 30) (62 + 28 * h.above + 4) (string_bytes h.words) ++ codes "\n"

-- the name of a node again, where its lane has gone on for thirty rows
unfoldable pub post : ℕ → List ℕ
post left =
    element_text (codes "text") (text_tag (codes "word post") (160 + 120 * left) 424)
    (escaped (codes "node ") ++ decimal (left + 1))

-- as many of them, from a lane with so many at its left
abbrev pub posts_from : ℕ → List (String Global) → List ℕ
posts_from left [] = []
posts_from left (objects ∷ more) = post left ++ posts_from (left + 1) more
