-- The diagram of a run as a document.
use Rattle.std.specs.Prelude.{ℕ, ◌+◌, ◌*◌, List, [], ◌++◌, length, map, reverse, codes, string_bytes}
use Rattle.std.specs.List.{flat_map}
use Rattle.cam_event.specs.declared.Event.{Event}
use Rattle.cam_xml.specs.WellFormed.{attribute_text, element_text, empty_element_text, escaped}
use Rattle.cam_diagram.specs.declared.Arrow.{Arrow}
use Rattle.cam_diagram.specs.declared.Dot.{Dot}
use Rattle.cam_diagram.specs.declared.Scene.{Scene}
use Rattle.cam_diagram.specs.declared.document.Size.{Size}
use Rattle.cam_diagram.specs.Picture.{arrows, dot}
use Rattle.cam_diagram.specs.Places.{point, set, set_number, text_tag}
use Rattle.cam_diagram.specs.Marks.{arrow_text}
use Rattle.cam_diagram.specs.Stubs.{stub_text}
use Rattle.cam_diagram.specs.Labels.{arrow_label, stub_label}
use Rattle.cam_diagram.specs.Lanes.{halt_label, halt_lane, lanes_text, posts_from}
use Rattle.cam_diagram.specs.Dots.{dots_text}

-- the size of the diagram of so many events, and where their words begin
abbrev pub size : Scene → ℕ → Size
size scene events =
    record {
      width = 112 + 120 * length scene.heads + 20 + 7 * scene.widest;
      height = 76 + 28 * events;
      words = 112 + 120 * length scene.heads;
    }

abbrev pub sizes : ℕ → ℕ → List ℕ
sizes width height = set_number (codes "width") width ++ set_number (codes "height") height

abbrev pub view_box : ℕ → ℕ → List ℕ
view_box width height =
    attribute_text (codes "viewBox") (point (codes "0 0 ") width height)

unfoldable pub extent : Size → List ℕ
extent s = sizes s.width s.height ++ view_box s.width s.height

-- the name by which a reader knows SVG
unfoldable pub namespace : List ℕ
namespace = codes "http://www.w3.org/2000/svg"

unfoldable pub root_tag : Size → List ℕ
root_tag s = set (codes "xmlns") namespace ++ extent s

unfoldable pub sheet : List ℕ → List ℕ
sheet style = element_text (codes "style") [] (escaped style) ++ codes "\n"

unfoldable pub outline : List ℕ → List ℕ → List ℕ
outline class path = empty_element_text (codes "path") (set (codes "class") class ++ set (codes "d") path)

-- the tip of an arrow, a dot's radius before the end of its shaft
unfoldable pub tip_place : List ℕ
tip_place =
    set (codes "refX") (codes "11") ++ set (codes "refY") (codes "2")
    ++ set (codes "orient") (codes "auto-start-reverse")

unfoldable pub tip_tag : List ℕ
tip_tag = set (codes "id") (codes "tip") ++ tip_place

unfoldable pub tip : List ℕ
tip = element_text (codes "marker") tip_tag (outline (codes "tip") (codes "M0 0L5 2L0 4z")) ++ codes "\n"

unfoldable pub rect : List ℕ → ℕ → ℕ → ℕ → List ℕ
rect class y width height =
    empty_element_text (codes "rect") (set (codes "class") class ++ set_number (codes "y") y ++ sizes width height)

-- every other row is shaded
unfoldable pub rows_tag : ℕ → List ℕ
rows_tag width =
    set (codes "id") (codes "rows") ++ set (codes "patternUnits") (codes "userSpaceOnUse")
    ++ set (codes "y") (codes "62") ++ sizes width 56

unfoldable pub rows : ℕ → List ℕ
rows width = element_text (codes "pattern") (rows_tag width) (rect (codes "band") 0 width 28) ++ codes "\n"

unfoldable pub looks : List ℕ → Size → List ℕ
looks style s =
    sheet style ++ tip ++ rows s.width ++ rect (codes "paper") 0 s.width s.height
    ++ rect (codes "rows") 62 s.width s.height ++ codes "\n"

unfoldable pub column : List ℕ → ℕ → List ℕ → List ℕ
column class x words = element_text (codes "text") (text_tag class x 40) (escaped words)

-- over the numbers of lines and over the words of events, what they are
unfoldable pub columns : ℕ → List ℕ
columns words =
    column (codes "line") 40 (codes "line") ++ column (codes "column") words (codes "what happened") ++ codes "\n"

-- the names of nodes, once in thirty rows
unfoldable pub posts_tag : ℕ → List ℕ
posts_tag width =
    set (codes "id") (codes "posts") ++ set (codes "patternUnits") (codes "userSpaceOnUse")
    ++ set (codes "y") (codes "482") ++ sizes width 840

unfoldable pub posts : Scene → Size → List ℕ
posts scene s =
    element_text (codes "pattern") (posts_tag s.width) (posts_from 0 scene.heads)
    ++ rect (codes "posts") 482 s.width s.height ++ codes "\n"

-- lines and dots
unfoldable pub lines : Scene → Size → List Arrow → List Dot → List ℕ
lines scene s drawn dots =
    lanes_text s.height 0 scene.heads ++ flat_map halt_lane scene.halts
    ++ flat_map (arrow_text scene.captions) drawn ++ flat_map (stub_text scene.captions) scene.stubs
    ++ dots_text scene.captions s.words 0 dots

-- the words of arrows, of letters that no event received, and of halts
unfoldable pub labels : Scene → Size → List Arrow → List ℕ
labels scene s drawn =
    flat_map (arrow_label scene.captions) drawn ++ flat_map (stub_label scene.captions) scene.stubs
    ++ flat_map halt_label scene.halts ++ posts scene s

-- What covers comes later: words are above all lines.
unfoldable pub picture : Scene → Size → List Arrow → List Dot → List ℕ
picture scene s drawn dots = columns s.words ++ lines scene s drawn dots ++ labels scene s drawn

unfoldable pub document : Scene → Size → List Arrow → List Dot → List ℕ
document scene s drawn dots =
    element_text (codes "svg") (root_tag s) (looks (string_bytes scene.style) s ++ picture scene s drawn dots)
    ++ codes "\n"

-- The diagram of a run: a dot for each of its events, and an arrow to each event that received a letter.
unfoldable pub diagram : Scene → List Event → List ℕ
diagram scene run =
    document scene (size scene (length run)) (arrows run (reverse run)) (map dot run)
