-- A diagram is well-formed, whatever its scene says.
use Rattle.std.proofs.Common.{ℕ, ◌+◌, ◌*◌, nat_lt, refl, ◌≡◌, subst, sym, List, [], ◌∷◌, ◌++◌, length, map, reverse, codes, string_bytes, String, Option, Some, None, slice_get}
use Rattle.std.specs.declared.alloc.Global.{Global}
use Rattle.std.specs.Option.{option_map_or}
use Rattle.cam_event.specs.declared.Event.{Event}
use Rattle.cam_xml.specs.WellFormed.{IsContent, IsDocument, AreAttributes}
use Rattle.cam_xml.specs.WellFormed.IsText.{empty as no_text, both as texts}
use Rattle.cam_xml.specs.WellFormed.AreAttributes.{none as no_attributes, one as attribute, both as attributes}
use Rattle.cam_xml.specs.WellFormed.IsContent.{text as text_content, element, empty_element, both as contents}
use Rattle.cam_diagram.specs.declared.Arrow.{Arrow}
use Rattle.cam_diagram.specs.declared.Dot.{Dot}
use Rattle.cam_diagram.specs.declared.Halt.{Halt}
use Rattle.cam_diagram.specs.declared.Caption.{Caption}
use Rattle.cam_diagram.specs.declared.Scene.{Scene}
use Rattle.cam_diagram.specs.declared.document.Size.{Size}
use Rattle.cam_diagram.specs.Picture.{arrows, dot, sign_shape, sign_word}
use Rattle.cam_diagram.specs.Places.{is_lit, x_of, y_of}
use Rattle.cam_diagram.specs.Marks.{arrow_text}
use Rattle.cam_diagram.specs.Stubs.{stub_text}
use Rattle.cam_diagram.specs.Labels.{arrow_label, stub_label}
use Rattle.cam_diagram.specs.Lanes.{halt_label, halt_lane, halt_mark, halt_words, head, kept, lane_text, lanes_text, post, posts_from, vertical}
use Rattle.cam_diagram.specs.Dots.{beside, beside_at, caption_text, deeds_title, dot_number, dot_parts, dot_shape, dot_tag, dot_text, dots_text, line_text, number_class, words_tag, words_text}
use Rattle.cam_diagram.specs.Diagram.{column, columns, diagram, document, extent, labels, lines, looks, namespace, outline, picture, posts, posts_tag, rect, root_tag, rows, rows_tag, sheet, size, sizes, tip, tip_place, tip_tag, view_box}
use Rattle.cam_diagram.proofs.Parts.{arrow_is, arrow_label_is, class_is, each_is, line_end, number, number_is, numbered_is, point_is, set_is, stub_is, stub_label_is, text_tag_is, translation_is, word}

vertical_is : (class : List ℕ) (x from to : ℕ) → IsContent (vertical class x from to)
unfolding vertical
vertical_is class x from to =
    empty_element (codes "path") refl (attributes (set_is (codes "class") class refl) (attribute (codes "d") refl (texts (texts (point_is (codes "M") x from) (word (codes "V"))) (number to))) refl)

head_is : (x node : ℕ) → IsContent (head x node)
unfolding head
head_is x node =
    element (codes "text") refl (text_tag_is (codes "head") x 24) (text_content (texts (word (codes "node ")) (number node)))

kept_is : (x : ℕ) (objects : List ℕ) → IsContent (kept x objects)
unfolding kept
kept_is x objects =
    element (codes "text") refl (text_tag_is (codes "kept") x 40) (text_content (word objects))

lane_is : (bottom left : ℕ) (objects : List ℕ) → IsContent (lane_text bottom left objects)
unfolding lane_text
lane_is bottom left objects =
    contents (contents (contents (head_is (160 + 120 * left) (left + 1)) (kept_is (160 + 120 * left) objects)) (vertical_is (codes "lane") (160 + 120 * left) 48 bottom)) line_end

lanes_are : (bottom left : ℕ) (heads : List (String Global)) → IsContent (lanes_text bottom left heads)
lanes_are bottom left [] =
    text_content no_text
lanes_are bottom left (objects ∷ more) =
    contents (lane_is bottom left (string_bytes objects)) (lanes_are bottom (left + 1) more)

halt_mark_is : (x y : ℕ) → IsContent (halt_mark x y)
unfolding halt_mark
halt_mark_is x y =
    empty_element (codes "path") refl (attributes (attributes (set_is (codes "class") (codes "pause") refl) (translation_is x y) refl) (set_is (codes "d") (codes "M-7 -7h14v14h-14zM-2 -4v8M2 -4v8") refl) refl)

beside_is : (x y : ℕ) (words : List ℕ) → IsContent (beside x y words)
unfolding beside
beside_is x y words =
    element (codes "text") refl (text_tag_is (codes "beside") x y) (text_content (word words))

halt_words_are : (x y : ℕ) (words : List ℕ) → IsContent (halt_words x y words)
unfolding halt_words
halt_words_are x y words =
    element (codes "text") refl (text_tag_is (codes "beside") x y) (text_content (word words))

halt_lane_is : (h : Halt) → IsContent (halt_lane h)
unfolding halt_lane
halt_lane_is h =
    contents
    (contents (vertical_is (codes "gap") (x_of h.node) (62 + 28 * h.above) (62 + 28 * h.until))
    (vertical_is (codes "halted") (x_of h.node) (62 + 28 * h.above) (62 + 28 * h.until)))
    line_end

halt_label_is : (h : Halt) → IsContent (halt_label h)
unfolding halt_label
halt_label_is h =
    contents
    (contents (halt_mark_is (x_of h.node + 18) (62 + 28 * h.above))
    (halt_words_are (x_of h.node + 30) (62 + 28 * h.above + 4) (string_bytes h.words)))
    line_end

post_is : (left : ℕ) → IsContent (post left)
unfolding post
post_is left =
    element (codes "text") refl (text_tag_is (codes "word post") (160 + 120 * left) 424) (text_content (texts (word (codes "node ")) (number (left + 1))))

posts_from_are : (left : ℕ) (heads : List (String Global)) → IsContent (posts_from left heads)
posts_from_are left [] =
    text_content no_text
posts_from_are left (objects ∷ more) =
    contents (post_is left) (posts_from_are (left + 1) more)

caption_words_are : (x y : ℕ) (c : Caption) → IsContent (words_text x y c)
unfolding words_text words_tag
caption_words_are x y c =
    element (codes "text") refl
    (attributes (text_tag_is (codes "words") x y) (set_is (codes "data-action") (string_bytes c.action) refl) refl)
    (text_content (word (string_bytes c.words)))

line_is : (y line : ℕ) → IsContent (line_text y line)
unfolding line_text
line_is y line =
    element (codes "text") refl (text_tag_is (codes "line") 40 y) (text_content (number line))

title_is : (deeds : List ℕ) → IsContent (deeds_title deeds)
unfolding deeds_title
title_is deeds =
    element (codes "title") refl no_attributes (text_content (word deeds))

beside_at_is : (number : ℕ) (d : Dot) (words : Option (String Global)) → IsContent (beside_at number d words)
beside_at_is number d None =
    text_content no_text
beside_at_is number d (Some text) =
    beside_is (58 + 120 * d.node) (80 + 28 * number) (string_bytes text)

caption_is : (right number : ℕ) (d : Dot) (c : Caption) → IsContent (caption_text right number d c)
unfolding caption_text
caption_is right number d c =
    contents (contents (contents (title_is (string_bytes c.deeds)) (caption_words_are right (80 + 28 * number) c)) (beside_at_is number d c.beside)) (line_is (80 + 28 * number) c.line)

caption_at_is : (right number : ℕ) (d : Dot) (c : Option Caption)
    → IsContent (option_map_or (caption_text right number d) c [])
caption_at_is right number d None =
    text_content no_text
caption_at_is right number d (Some c) =
    caption_is right number d c

dot_tag_is : (captions : List Caption) (n : ℕ) (d : Dot)
    → AreAttributes (codes "class" ∷ codes "id" ∷ codes "data-event" ∷ []) (dot_tag captions n d)
unfolding dot_tag
dot_tag_is captions n d =
    attributes (attributes (class_is (codes "event ") (sign_word d.sign) (is_lit captions n)) (numbered_is (codes "id") (codes "e") n refl) refl) (number_is (codes "data-event") n refl) refl

dot_shape_is : (n : ℕ) (d : Dot) → IsContent (dot_shape n d)
unfolding dot_shape
dot_shape_is n d =
    empty_element (codes "path") refl (attributes (attributes (set_is (codes "class") (codes "sign") refl) (translation_is (x_of d.node) (y_of n)) refl) (set_is (codes "d") (sign_shape d.sign) refl) refl)

dot_number_is : (n : ℕ) (d : Dot) → IsContent (dot_number n d)
unfolding dot_number
dot_number_is n d =
    element (codes "text") refl (text_tag_is (number_class (nat_lt n 1000)) (x_of d.node) (y_of n + 4)) (text_content (number n))

dot_is : (captions : List Caption) (right n : ℕ) (d : Dot) → IsContent (dot_text captions right n d)
unfolding dot_text dot_parts
dot_is captions right n d =
    contents (element (codes "g") refl (dot_tag_is captions n d) (contents (contents (caption_at_is right n d (slice_get captions n)) (dot_shape_is n d)) (dot_number_is n d))) line_end

dots_are : (captions : List Caption) (right n : ℕ) (ds : List Dot) → IsContent (dots_text captions right n ds)
dots_are captions right n [] =
    text_content no_text
dots_are captions right n (d ∷ ds) =
    contents (dot_is captions right n d) (dots_are captions right (n + 1) ds)

sizes_are : (width height : ℕ) → AreAttributes (codes "width" ∷ codes "height" ∷ []) (sizes width height)
sizes_are width height =
    attributes (number_is (codes "width") width refl) (number_is (codes "height") height refl) refl

view_box_is : (width height : ℕ) → AreAttributes (codes "viewBox" ∷ []) (view_box width height)
view_box_is width height =
    attribute (codes "viewBox") refl (point_is (codes "0 0 ") width height)

extent_is : (s : Size) → AreAttributes (codes "width" ∷ codes "height" ∷ codes "viewBox" ∷ []) (extent s)
unfolding extent
extent_is s = attributes (sizes_are s.width s.height) (view_box_is s.width s.height) refl

root_is : (s : Size)
    → AreAttributes (codes "xmlns" ∷ codes "width" ∷ codes "height" ∷ codes "viewBox" ∷ []) (root_tag s)
unfolding root_tag
root_is s = attributes (set_is (codes "xmlns") namespace refl) (extent_is s) refl

sheet_is : (style : List ℕ) → IsContent (sheet style)
unfolding sheet
sheet_is style =
    contents (element (codes "style") refl no_attributes (text_content (word style))) line_end

outline_is : (class path : List ℕ) → IsContent (outline class path)
unfolding outline
outline_is class path =
    empty_element (codes "path") refl (attributes (set_is (codes "class") class refl) (set_is (codes "d") path refl) refl)

tip_place_is : AreAttributes (codes "refX" ∷ codes "refY" ∷ codes "orient" ∷ []) tip_place
unfolding tip_place
tip_place_is =
    attributes (attributes (set_is (codes "refX") (codes "11") refl) (set_is (codes "refY") (codes "2") refl) refl) (set_is (codes "orient") (codes "auto-start-reverse") refl) refl

tip_is : IsContent tip
unfolding tip tip_tag
tip_is =
    contents (element (codes "marker") refl (attributes (set_is (codes "id") (codes "tip") refl) tip_place_is refl) (outline_is (codes "tip") (codes "M0 0L5 2L0 4z"))) line_end

rect_is : (class : List ℕ) (y width height : ℕ) → IsContent (rect class y width height)
unfolding rect
rect_is class y width height =
    empty_element (codes "rect") refl (attributes (attributes (set_is (codes "class") class refl) (number_is (codes "y") y refl) refl) (sizes_are width height) refl)

rows_are : (width : ℕ) → IsContent (rows width)
unfolding rows rows_tag
rows_are width =
    contents (element (codes "pattern") refl (attributes (attributes (attributes (set_is (codes "id") (codes "rows") refl) (set_is (codes "patternUnits") (codes "userSpaceOnUse") refl) refl) (set_is (codes "y") (codes "62") refl) refl) (sizes_are width 56) refl) (rect_is (codes "band") 0 width 28)) line_end

looks_are : (style : List ℕ) (s : Size) → IsContent (looks style s)
unfolding looks
looks_are style s =
    contents (contents (contents (contents (contents (sheet_is style) tip_is) (rows_are s.width)) (rect_is (codes "paper") 0 s.width s.height)) (rect_is (codes "rows") 62 s.width s.height)) line_end

column_is : (class : List ℕ) (x : ℕ) (words : List ℕ) → IsContent (column class x words)
unfolding column
column_is class x words =
    element (codes "text") refl (text_tag_is class x 40) (text_content (word words))

columns_are : (words : ℕ) → IsContent (columns words)
unfolding columns
columns_are words =
    contents (contents (column_is (codes "line") 40 (codes "line")) (column_is (codes "column") words (codes "what happened"))) line_end

posts_are : (scene : Scene) (s : Size) → IsContent (posts scene s)
unfolding posts posts_tag
posts_are scene s =
    contents (contents (element (codes "pattern") refl (attributes (attributes (attributes (set_is (codes "id") (codes "posts") refl) (set_is (codes "patternUnits") (codes "userSpaceOnUse") refl) refl) (set_is (codes "y") (codes "482") refl) refl) (sizes_are s.width 840) refl) (posts_from_are 0 scene.heads)) (rect_is (codes "posts") 482 s.width s.height)) line_end

lines_are : (scene : Scene) (s : Size) (drawn : List Arrow) (ds : List Dot) → IsContent (lines scene s drawn ds)
unfolding lines
lines_are scene s drawn ds =
    contents (contents (contents (contents (lanes_are s.height 0 scene.heads) (each_is halt_lane halt_lane_is scene.halts)) (each_is (arrow_text scene.captions) (arrow_is scene.captions) drawn)) (each_is (stub_text scene.captions) (stub_is scene.captions) scene.stubs)) (dots_are scene.captions s.words 0 ds)

labels_are : (scene : Scene) (s : Size) (drawn : List Arrow) → IsContent (labels scene s drawn)
unfolding labels
labels_are scene s drawn =
    contents (contents (contents (each_is (arrow_label scene.captions) (arrow_label_is scene.captions) drawn) (each_is (stub_label scene.captions) (stub_label_is scene.captions) scene.stubs)) (each_is halt_label halt_label_is scene.halts)) (posts_are scene s)

picture_is : (scene : Scene) (s : Size) (drawn : List Arrow) (ds : List Dot) → IsContent (picture scene s drawn ds)
unfolding picture
picture_is scene s drawn ds =
    contents (contents (columns_are s.words) (lines_are scene s drawn ds)) (labels_are scene s drawn)

document_is : (scene : Scene) (s : Size) (drawn : List Arrow) (ds : List Dot) → IsDocument (document scene s drawn ds)
unfolding document
document_is scene s drawn ds =
    record {
      name = codes "svg";
      names = codes "xmlns" ∷ codes "width" ∷ codes "height" ∷ codes "viewBox" ∷ [];
      attributes = root_tag s;
      inner = looks (string_bytes scene.style) s ++ picture scene s drawn ds;
      is = refl;
      named = refl;
      has = root_is s;
      holds = contents (looks_are (string_bytes scene.style) s) (picture_is scene s drawn ds);
    }

-- the text of a diagram is a document
pub drawn_is_document : (scene : Scene) (run : List Event) (bytes : List ℕ) → bytes ≡ diagram scene run → IsDocument bytes
unfolding diagram
drawn_is_document scene run bytes drawn =
    subst IsDocument (sym drawn)
    (document_is scene (size scene (length run)) (arrows run (reverse run)) (map dot run))
