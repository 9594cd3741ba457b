-- The parts of a diagram are well-formed, whatever they say.
use Rattle.std.proofs.Common.{ℕ, ◌+◌, ◌*◌, eqb, refl, IsTrue, Bool, true, false, if◌then◌else◌, List, [], ◌∷◌, codes, decimal}
use Rattle.std.specs.List.{flat_map}
use Rattle.cam_event.specs.declared.LetterId.{LetterId}
use Rattle.cam_xml.specs.WellFormed.{IsText, AreAttributes, IsContent, is_name}
use Rattle.cam_xml.specs.WellFormed.IsText.{empty as no_text, plain as plain_text, both as texts}
use Rattle.cam_xml.specs.WellFormed.AreAttributes.{one as attribute, both as attributes}
use Rattle.cam_xml.specs.WellFormed.IsContent.{text as text_content, element, empty_element, both as contents}
use Rattle.cam_xml.specs.WellFormed.{escaped}
use Rattle.cam_xml.proofs.Text.{escaped_is_text, numbers_are_text}
use Rattle.cam_diagram.specs.declared.Kind.{Kind}
use Rattle.cam_diagram.specs.declared.Spot.{Spot}
use Rattle.cam_diagram.specs.declared.Arrow.{Arrow}
use Rattle.cam_diagram.specs.declared.Caption.{Caption}
use Rattle.cam_diagram.specs.declared.Stub.{Stub}
use Rattle.cam_diagram.specs.Picture.{fate_shape, fate_word, kind_class, kind_word}
use Rattle.cam_diagram.specs.Places.{class_of, dim, is_letter_lit, letter_number, numbered, place, point, set, set_number, text_tag, translation, x_of, y_of}
use Rattle.cam_diagram.specs.Marks.{across, arrow_path, arrow_tag, arrow_text, ends, looped, mark_tag, sag, shaft}
use Rattle.cam_diagram.specs.Stubs.{end_x, end_y, side_of, stub_end, stub_shaft, stub_tag, stub_text}
use Rattle.cam_diagram.specs.Labels.{arrow_label, arrow_side, arrow_words, arrow_words_x, fate_label, label, side_class, stub_label, stub_words, words_x}

pub word : (bytes : List ℕ) → IsText (escaped bytes)
word bytes =
    escaped_is_text bytes

pub number : (n : ℕ) → IsText (decimal n)
number n =
    numbers_are_text n

pub line_end : IsContent (codes "\n")
line_end =
    text_content (plain_text refl)

-- what is well-formed for each of a list is so for the whole
pub each_is : {X : Type 0} (f : X → List ℕ) → ((x : X) → IsContent (f x)) → (xs : List X) → IsContent (flat_map f xs)
each_is f is [] =
    text_content no_text
each_is f is (x ∷ xs) =
    contents (is x) (each_is f is xs)

pub set_is : (name value : List ℕ) → IsTrue (is_name name) → AreAttributes (name ∷ []) (set name value)
set_is name value named =
    attribute name named (word value)

pub number_is : (name : List ℕ) (n : ℕ) → IsTrue (is_name name) → AreAttributes (name ∷ []) (set_number name n)
number_is name n named =
    attribute name named (number n)

pub class_is : (class more : List ℕ) (lit : Bool) → AreAttributes (codes "class" ∷ []) (class_of class more lit)
class_is class more lit =
    attribute (codes "class") refl (texts (texts (word class) (word more)) (word (dim lit)))

pub place_is : (x y : ℕ) → AreAttributes (codes "x" ∷ codes "y" ∷ []) (place x y)
place_is x y =
    attributes (number_is (codes "x") x refl) (number_is (codes "y") y refl) refl

pub text_tag_is : (class : List ℕ) (x y : ℕ)
    → AreAttributes (codes "class" ∷ codes "x" ∷ codes "y" ∷ []) (text_tag class x y)
unfolding text_tag
text_tag_is class x y =
    attributes (set_is (codes "class") class refl) (place_is x y) refl

pub point_is : (mark : List ℕ) (x y : ℕ) → IsText (point mark x y)
unfolding point
point_is mark x y =
    texts (texts (texts (word mark) (number x)) (word (codes " "))) (number y)

pub translation_is : (x y : ℕ) → AreAttributes (codes "transform" ∷ []) (translation x y)
translation_is x y =
    attribute (codes "transform") refl (texts (point_is (codes "translate(") x y) (word (codes ")")))

across_is : (from to : Spot) → IsText (across from to)
unfolding across
across_is from to =
    texts (texts (point_is (codes "M") (x_of from.node) (y_of from.event)) (point_is (codes "Q") (40 + 60 * (from.node + to.node)) (48 + 14 * (from.event + to.event) + sag from to))) (point_is (codes " ") (x_of to.node) (y_of to.event))

looped_is : (from to : Spot) → IsText (looped from to)
unfolding looped
looped_is from to =
    texts (texts (texts (point_is (codes "M") (x_of from.node) (y_of from.event)) (point_is (codes "C") (120 * from.node) (82 + 28 * from.event))) (point_is (codes " ") (120 * from.node) (70 + 28 * to.event))) (point_is (codes " ") (x_of to.node) (y_of to.event))

one_or_other : (own : Bool) (from to : Spot) → IsText (if own then looped from to else across from to)
one_or_other true from to =
    looped_is from to
one_or_other false from to =
    across_is from to

path_is : (a : Arrow) → IsText (arrow_path a)
path_is a =
    one_or_other (eqb a.from.node a.to.node) a.from a.to

label_is : (captions : List Caption) (kind : Kind) (letter : LetterId) → IsText (label captions kind letter)
unfolding label
label_is captions kind letter =
    texts (texts (word (kind_word kind)) (word (codes " "))) (number (letter_number captions letter))

pub numbered_is : (name mark : List ℕ) (n : ℕ) → IsTrue (is_name name) → AreAttributes (name ∷ []) (numbered name mark n)
numbered_is name mark n named =
    attribute name named (texts (word mark) (number n))

mark_tag_is : (captions : List Caption) (class : List ℕ) (kind : Kind) (letter : LetterId) (lit : Bool)
    → AreAttributes (codes "class" ∷ codes "data-letter" ∷ []) (mark_tag captions class kind letter lit)
unfolding mark_tag
mark_tag_is captions class kind letter lit =
    attributes (class_is class (kind_class kind) lit) (number_is (codes "data-letter") (letter_number captions letter) refl) refl

ends_are : (a : Arrow) → AreAttributes (codes "data-from" ∷ codes "data-to" ∷ []) (ends a)
unfolding ends
ends_are a =
    attributes (number_is (codes "data-from") a.from.event refl) (number_is (codes "data-to") a.to.event refl) refl

arrow_tag_is : (captions : List Caption) (a : Arrow)
    → AreAttributes (codes "class" ∷ codes "data-letter" ∷ codes "data-from" ∷ codes "data-to" ∷ []) (arrow_tag captions a)
unfolding arrow_tag
arrow_tag_is captions a =
    attributes (mark_tag_is captions (codes "letter ") a.kind a.letter (is_letter_lit captions a.to.event)) (ends_are a) refl

shaft_is : (a : Arrow) → IsContent (shaft a)
unfolding shaft
shaft_is a =
    empty_element (codes "path") refl (attributes (set_is (codes "class") (codes "shaft") refl) (attribute (codes "d") refl (path_is a)) refl)

pub arrow_is : (captions : List Caption) (a : Arrow) → IsContent (arrow_text captions a)
unfolding arrow_text
arrow_is captions a =
    contents (element (codes "g") refl (arrow_tag_is captions a) (shaft_is a)) line_end

stub_tag_is : (captions : List Caption) (s : Stub)
    → AreAttributes (codes "class" ∷ codes "data-letter" ∷ codes "data-from" ∷ []) (stub_tag captions s)
unfolding stub_tag
stub_tag_is captions s =
    attributes (mark_tag_is captions (codes "letter unheard ") s.kind s.letter s.lit) (number_is (codes "data-from") s.from.event refl) refl

stub_shaft_is : (s : Stub) → IsContent (stub_shaft s)
unfolding stub_shaft
stub_shaft_is s =
    empty_element (codes "path") refl (attributes (set_is (codes "class") (codes "shaft") refl) (attribute (codes "d") refl (texts (point_is (codes "M") (x_of s.from.node) (y_of s.from.event)) (point_is (codes "L") (end_x (side_of s) s) (end_y s)))) refl)

stub_end_is : (s : Stub) → IsContent (stub_end s)
unfolding stub_end
stub_end_is s =
    empty_element (codes "path") refl (attributes (attributes (set_is (codes "class") (codes "fate") refl) (translation_is (end_x (side_of s) s) (end_y s)) refl) (set_is (codes "d") (fate_shape s.fate) refl) refl)

pub stub_is : (captions : List Caption) (s : Stub) → IsContent (stub_text captions s)
unfolding stub_text
stub_is captions s =
    contents (element (codes "g") refl (stub_tag_is captions s) (contents (stub_shaft_is s) (stub_end_is s))) line_end

arrow_words_are : (captions : List Caption) (a : Arrow) → IsContent (arrow_words captions a)
unfolding arrow_words
arrow_words_are captions a =
    element (codes "text") refl (text_tag_is (side_class (arrow_side a)) (arrow_words_x a) (81 + 28 * a.to.event)) (text_content (label_is captions a.kind a.letter))

pub arrow_label_is : (captions : List Caption) (a : Arrow) → IsContent (arrow_label captions a)
unfolding arrow_label
arrow_label_is captions a =
    contents (element (codes "g") refl (mark_tag_is captions (codes "label ") a.kind a.letter (is_letter_lit captions a.to.event)) (arrow_words_are captions a)) line_end

stub_words_are : (captions : List Caption) (s : Stub) → IsContent (stub_words captions s)
unfolding stub_words fate_label
stub_words_are captions s =
    element (codes "text") refl (text_tag_is (side_class (side_of s)) (words_x (side_of s) s) (end_y s + 4)) (text_content (texts (label_is captions s.kind s.letter) (word (fate_word s.fate))))

pub stub_label_is : (captions : List Caption) (s : Stub) → IsContent (stub_label captions s)
unfolding stub_label
stub_label_is captions s =
    contents (element (codes "g") refl (mark_tag_is captions (codes "label unheard ") s.kind s.letter s.lit) (stub_words_are captions s)) line_end
