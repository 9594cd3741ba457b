-- What makes text well-formed, whatever it says.
use Rattle.std.specs.Prelude.{ℕ, List, decimal}
use Rattle.cam_xml.specs.WellFormed.{IsText, escaped}

-- Escaped text is text, whatever the bytes were.
abbrev pub EscapedIsText : Type 0
EscapedIsText = (text : List ℕ) → IsText (escaped text)

-- A number is text.
abbrev pub NumbersAreText : Type 0
NumbersAreText = (number : ℕ) → IsText (decimal number)
