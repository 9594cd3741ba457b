-- Numbers, nodes, values and names as words.
use Rattle.std.specs.Prelude.{ℕ, ℤ, pos, negsuc, ◌+◌, ◌-◌, ◌*◌, ◌==◌, ◌&&◌, ◌||◌, Bool, false, not, nat_le, nat_lt, zero, suc, List, [], ◌∷◌, length, Option, Some, None, is_some, Result, Ok, if◌then◌else◌}
use Rattle.std.specs.List.{list_all}
use Rattle.cam_words.specs.declared.fault.ScriptFault.{ScriptFault}
use Rattle.cam_words.specs.declared.cause.Cause.TheVariants as causes
use Rattle.cam_words.specs.declared.word.Word.{Word}
use Rattle.cam_words.specs.Words.{◌>>=◌, or_refuse, refuse_if, text_of, word_at, place_of}

abbrev pub is_digit : ℕ → Bool
is_digit b = nat_le 48 b && nat_le b 57

abbrev pub is_letter : ℕ → Bool
is_letter b = (nat_le 65 b && nat_le b 90) || (nat_le 97 b && nat_le b 122)

-- the number that goes on from n with these digits, if it is no more than `limit`
abbrev pub digits_on : ℕ → ℕ → List ℕ → Option ℕ
digits_on limit n [] = Some n
digits_on limit n (b ∷ bs) =
    if is_digit b && nat_le (10 * n + (b - 48)) limit then digits_on limit (10 * n + (b - 48)) bs else None

-- A number is decimal digits, one or more; leading zeros are allowed.
abbrev pub number_of : ℕ → List ℕ → Option ℕ
number_of limit [] = None
number_of limit (b ∷ bs) = digits_on limit 0 (b ∷ bs)

abbrev pub from : ℕ → Option ℕ → Option ℕ
from least None = None
from least (Some n) = if nat_le least n then Some n else None

-- a number of this range, and the place after it
unfoldable pub number_at : ℕ → ℕ → ℕ → ℕ → List ℕ → Result (ℕ × ℕ) ScriptFault
number_at least most number at line = do
  word ← word_at number at line
  n ← or_refuse (from least (number_of most (text_of word line))) number word.start causes.InvalidNumber
  Ok (n, word.end)

-- A node is 1 to 8, and none above the number of nodes.
unfoldable pub node_at : ℕ → ℕ → ℕ → List ℕ → Result (ℕ × ℕ) ScriptFault
node_at nodes number at line = do
  word ← word_at number at line
  n ← or_refuse (from 1 (number_of 8 (text_of word line))) number word.start causes.InvalidNumber
  there ← refuse_if (nat_lt nodes n) number word.start causes.NoSuchNode
  Ok (n, word.end)

abbrev pub minus : ℕ → ℤ
minus zero = pos 0
minus (suc n) = negsuc n

abbrev pub below_zero : Option ℕ → Option ℤ
below_zero (Some n) = Some (minus n)
below_zero None = None

abbrev pub not_below_zero : Option ℕ → Option ℤ
not_below_zero (Some n) = Some (pos n)
not_below_zero None = None

-- A value is digits with or without a `-` before them, in the range of 64 bits with sign.
abbrev pub value_of : List ℕ → Option ℤ
value_of [] = None
value_of (b ∷ bs) =
    if b == 45 then below_zero (number_of 9223372036854775808 bs) else not_below_zero (number_of 9223372036854775807 (b ∷ bs))

-- a value, and the place after it
unfoldable pub value_at : ℕ → ℕ → List ℕ → Result (ℤ × ℕ) ScriptFault
value_at number at line = do
  word ← word_at number at line
  v ← or_refuse (value_of (text_of word line)) number word.start causes.InvalidNumber
  Ok (v, word.end)

abbrev pub is_letter_or_digit : ℕ → Bool
is_letter_or_digit b = is_letter b || is_digit b

-- A name is a letter and up to 15 letters or digits.
abbrev pub is_name : List ℕ → Bool
is_name [] = false
is_name (b ∷ bs) = is_letter b && (list_all is_letter_or_digit bs && nat_le (length bs) 15)

-- the word of a new name, which is none of the names that there are
unfoldable pub new_name_at : List (List ℕ) → ℕ → ℕ → List ℕ → Result Word ScriptFault
new_name_at names number at line = do
  word ← word_at number at line
  spelled ← refuse_if (not (is_name (text_of word line))) number word.start causes.InvalidName
  new ← refuse_if (is_some (place_of names (text_of word line))) number word.start causes.DeclaredAgain
  Ok word

-- the place of a declared name, and the place after the word
unfoldable pub declared_at : List (List ℕ) → ℕ → ℕ → List ℕ → Result (ℕ × ℕ) ScriptFault
declared_at names number at line = do
  word ← word_at number at line
  place ← or_refuse (place_of names (text_of word line)) number word.start causes.Undeclared
  Ok (place, word.end)
