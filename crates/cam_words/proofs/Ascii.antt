-- The bytes of a name are text.
use Rattle.std.proofs.Common.{◌≡◌, ◌<◌, ℕ, zero, suc, Bool, true, false, ◌&&◌, List, [], ◌∷◌, length, refl, arith}
use Rattle.std.specs.Prelude.{nat_le, slice_index, IsTrue}
use Rattle.std.specs.List.{list_all}
use Rattle.std.specs.Str.{IsUtf8}
use Rattle.std.proofs.lemmas.Str.{IsUtf8-from_ascii}
use Rattle.cam_words.specs.Numbers.{is_letter, is_letter_or_digit, is_name}

left_of : (a b : Bool) → (a && b) ≡ true → a ≡ true
left_of true b h = refl
left_of false b h = absurd (grind (arith, h))

right_of : (a b : Bool) → (a && b) ≡ true → b ≡ true
right_of true b h = h
right_of false b h = absurd (grind (arith, h))

letter_below : (b : ℕ) → is_letter b ≡ true → b < 128
letter_below b h = grind (arith, h)

letter_or_digit_below : (b : ℕ) → is_letter_or_digit b ≡ true → b < 128
letter_or_digit_below b h = grind (arith, h)

all_below : (bs : List ℕ) → list_all is_letter_or_digit bs ≡ true → (i : ℕ) → slice_index bs i < 128
all_below [] h i = omega arith
all_below (b ∷ bs) h zero = letter_or_digit_below b (left_of (is_letter_or_digit b) (list_all is_letter_or_digit bs) h)
all_below (b ∷ bs) h (suc i) = all_below bs (right_of (is_letter_or_digit b) (list_all is_letter_or_digit bs) h) i

name_below : (bs : List ℕ) → is_name bs ≡ true → (i : ℕ) → slice_index bs i < 128
name_below [] h i = omega arith
name_below (b ∷ bs) h zero = letter_below b (left_of (is_letter b) (list_all is_letter_or_digit bs && nat_le (length bs) 15) h)
name_below (b ∷ bs) h (suc i) =
    all_below bs (left_of (list_all is_letter_or_digit bs) (nat_le (length bs) 15) (right_of (is_letter b) (list_all is_letter_or_digit bs && nat_le (length bs) 15) h)) i

pub name_is_text : (bs : List ℕ) → IsTrue (is_name bs) → IsUtf8 bs
name_is_text bs h = IsUtf8-from_ascii bs (name_below bs h)
