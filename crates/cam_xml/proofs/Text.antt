-- Escaped text and numbers are text.
use Rattle.std.proofs.Common.{◌≡◌, refl, ℕ, zero, suc, ◌%◌, ◌/◌, ◌==◌, Bool, true, false, if◌then◌else◌, List, [], ◌∷◌, arith}
use Rattle.std.proofs.lemmas.Bool.Decides.{nat_tests}
use Rattle.std.specs.Fmt.{digits, digits_onto, digit_glyph}
use Rattle.cam_xml.specs.WellFormed.{IsReference, IsText, escaped, is_plain, reference_of}
use Rattle.cam_xml.specs.WellFormed.IsReference.{less, greater, ampersand, quote, apostrophe, unknown}
use Rattle.cam_xml.specs.WellFormed.IsText.{empty, plain, reference, both}
use Rattle.cam_xml.specs.Laws.{EscapedIsText, NumbersAreText}

-- one of two lists that are references is a reference
either : (b : Bool) (xs ys : List ℕ) → IsReference xs → IsReference ys → IsReference (if b then xs else ys)
either true xs ys x y = x
either false xs ys x y = y

reference_is : (c : ℕ) → IsReference (reference_of c)
reference_is c =
    either (c == 60) _ _ less (either (c == 62) _ _ greater (either (c == 38) _ _ ampersand
    (either (c == 34) _ _ quote (either (c == 39) _ _ apostrophe unknown))))

chosen : (c : ℕ) (b : Bool) → is_plain c ≡ b → IsText (if b then c ∷ [] else reference_of c)
chosen c true is = plain is
chosen c false is = reference (reference_is c)

pub escaped_is_text : EscapedIsText
unfolding escaped
escaped_is_text [] = empty
escaped_is_text (c ∷ cs) = both (chosen c (is_plain c) refl) (escaped_is_text cs)

digit_is_plain : (n : ℕ) → is_plain (digit_glyph false (n % 10)) ≡ true
digit_is_plain n = grind (arith, nat_tests)

onto : (k n : ℕ) (front : List ℕ) → IsText front → IsText (digits_onto k 10 false n front)
onto zero n front is = is
onto (suc k) n front is =
    let more : IsText (digit_glyph false (n % 10) ∷ front) = both (plain (digit_is_plain n)) is in
    elim (n / 10 == 0) as (λ b. IsText (if b then digit_glyph false (n % 10) ∷ front
    else digits_onto k 10 false (n / 10) (digit_glyph false (n % 10) ∷ front)))
    [ true ↦ more | false ↦ onto k (n / 10) _ more ]

pub numbers_are_text : NumbersAreText
unfolding digits
numbers_are_text n = onto 64 n [] empty
