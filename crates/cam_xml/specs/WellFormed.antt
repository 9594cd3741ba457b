-- What is well-formed, of the part of XML that is written here: elements, attributes and text, in bytes. And how text is escaped.
use Rattle.std.specs.Prelude.{◌≡◌, ℕ, Bool, true, false, not, nat_lt, ◌==◌, ◌&&◌, ◌||◌, if◌then◌else◌, IsTrue, List, [], ◌∷◌, ◌++◌, codes, flat_map}
use Rattle.std.specs.List.{list_any}
use Rattle.std.specs.Str.{bytes_eq}

-- printable ASCII, and the end of a line
abbrev pub is_printable : ℕ → Bool
is_printable c = (c == 10) || (nat_lt 31 c && nat_lt c 127)

-- what stands for itself in text
abbrev pub is_plain : ℕ → Bool
is_plain c = is_printable c && not ((c == 60) || (c == 62) || (c == 38) || (c == 34) || (c == 39))

-- The references: < > & " ' and the character for what cannot be shown.
pub data IsReference : List ℕ → Type 0 where
  less : IsReference (codes "&lt;")
  greater : IsReference (codes "&gt;")
  ampersand : IsReference (codes "&amp;")
  quote : IsReference (codes "&quot;")
  apostrophe : IsReference (codes "&apos;")
  unknown : IsReference (codes "&#xFFFD;")

-- Text is plain bytes and references. It may stand between tags, and between quotes.
pub data IsText : List ℕ → Type 0 where
  empty : IsText []
  plain : {c : ℕ} → IsTrue (is_plain c) → IsText (c ∷ [])
  reference : {bytes : List ℕ} → IsReference bytes → IsText bytes
  both : {front rest : List ℕ} → IsText front → IsText rest → IsText (front ++ rest)

abbrev pub is_letter : ℕ → Bool
is_letter c = (nat_lt 64 c && nat_lt c 91) || (nat_lt 96 c && nat_lt c 123)

abbrev pub is_name_byte : ℕ → Bool
is_name_byte c = is_letter c || (nat_lt 47 c && nat_lt c 58) || (c == 45)

abbrev pub are_name_bytes : List ℕ → Bool
are_name_bytes [] = true
are_name_bytes (c ∷ cs) = is_name_byte c && are_name_bytes cs

-- A name is a letter, and then letters, digits and hyphens.
abbrev pub is_name : List ℕ → Bool
is_name [] = false
is_name (c ∷ cs) = is_letter c && are_name_bytes cs

unfoldable pub attribute_text : List ℕ → List ℕ → List ℕ
attribute_text name value = codes " " ++ name ++ codes "=\"" ++ value ++ codes "\""

-- no name of the one list is in the other
abbrev pub are_apart : List (List ℕ) → List (List ℕ) → Bool
are_apart [] others = true
are_apart (name ∷ names) others = not (list_any (bytes_eq name) others) && are_apart names others

-- Attributes with these names. No name comes twice.
pub data AreAttributes : List (List ℕ) → List ℕ → Type 0 where
  none : AreAttributes [] []
  one : (name : List ℕ) {value : List ℕ} → IsTrue (is_name name) → IsText value
      → AreAttributes (name ∷ []) (attribute_text name value)
  both : {names others : List (List ℕ)} {front rest : List ℕ} → AreAttributes names front
      → AreAttributes others rest → IsTrue (are_apart names others) → AreAttributes (names ++ others) (front ++ rest)

abbrev pub element_text : List ℕ → List ℕ → List ℕ → List ℕ
element_text name attributes inner =
    codes "<" ++ name ++ attributes ++ codes ">" ++ inner ++ codes "</" ++ name ++ codes ">"

abbrev pub empty_element_text : List ℕ → List ℕ → List ℕ
empty_element_text name attributes = codes "<" ++ name ++ attributes ++ codes "/>"

-- Content is text and elements, in any order.
pub data IsContent : List ℕ → Type 0 where
  text : {bytes : List ℕ} → IsText bytes → IsContent bytes
  element : (name : List ℕ) {names : List (List ℕ)} {attributes inner : List ℕ} → IsTrue (is_name name)
      → AreAttributes names attributes → IsContent inner → IsContent (element_text name attributes inner)
  empty_element : (name : List ℕ) {names : List (List ℕ)} {attributes : List ℕ} → IsTrue (is_name name)
      → AreAttributes names attributes → IsContent (empty_element_text name attributes)
  both : {front rest : List ℕ} → IsContent front → IsContent rest → IsContent (front ++ rest)

-- A document is one element, and the end of its line.
pub record IsDocument (bytes : List ℕ) : Type 0 where
  pub name : List ℕ
  pub names : List (List ℕ)
  pub attributes : List ℕ
  pub inner : List ℕ
  pub is : bytes ≡ element_text name attributes inner ++ codes "\n"
  pub named : IsTrue (is_name name)
  pub has : AreAttributes names attributes
  pub holds : IsContent inner

-- the reference of a byte that is not plain
abbrev pub reference_of : ℕ → List ℕ
reference_of c =
    if c == 60 then codes "&lt;" else if c == 62 then codes "&gt;" else if c == 38 then codes "&amp;"
    else if c == 34 then codes "&quot;" else if c == 39 then codes "&apos;" else codes "&#xFFFD;"

-- a byte of a text as it is written
abbrev pub escaped_byte : ℕ → List ℕ
escaped_byte c = if is_plain c then c ∷ [] else reference_of c

-- a text as it is written
unfoldable pub escaped : List ℕ → List ℕ
escaped bytes = flat_map escaped_byte bytes
