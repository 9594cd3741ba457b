-- Values in bodies: a value, `$K`, `$K+U` or `$K-U`, K the place of an earlier statement from 1.
use Rattle.std.specs.Prelude.{ℕ, ℤ, pos, ◌==◌, List, [], ◌∷◌, Option, Some, None, Result, Ok, if◌then◌else◌}
use Rattle.cam_words.specs.declared.fault.ScriptFault.{ScriptFault}
use Rattle.cam_words.specs.declared.cause.Cause.TheVariants as causes
use Rattle.cam_words.specs.declared.expressions.Expr.{Expr}
use Rattle.cam_words.specs.declared.expressions.Expr.TheVariants.{Fixed, Kept}
use Rattle.cam_words.specs.Words.{◌>>=◌, refuse, or_refuse, text_of, word_at}
use Rattle.cam_words.specs.Numbers.{is_digit, number_of, from, below_zero, not_below_zero, value_of}

-- the digits in front, and what comes after them
abbrev pub digits_in_front : List ℕ → List ℕ
digits_in_front [] = []
digits_in_front (b ∷ bs) = if is_digit b then b ∷ digits_in_front bs else []

abbrev pub behind_digits : List ℕ → List ℕ
behind_digits [] = []
behind_digits (b ∷ bs) = if is_digit b then behind_digits bs else b ∷ bs

-- the number that is added: none, `+U` or `-U`
abbrev pub added_of : List ℕ → Option ℤ
added_of [] = Some (pos 0)
added_of (b ∷ bs) =
    if b == 43 then not_below_zero (number_of 9223372036854775807 bs)
    else if b == 45 then below_zero (number_of 9223372036854775807 bs)
    else None

-- The place K of one of the earlier statements, by its digits.
abbrev pub earlier_of : ℕ → ℕ → ℕ → List ℕ → Result ℕ ScriptFault
earlier_of earlier number at [] = refuse number at causes.InvalidNumber
earlier_of earlier number at (b ∷ bs) = or_refuse (from 1 (number_of earlier (b ∷ bs))) number at causes.Undeclared

-- After the `$`. A wrong spelling and a U out of range come before an earlier statement that is not there.
unfoldable pub kept_of : ℕ → ℕ → ℕ → List ℕ → Result Expr ScriptFault
kept_of earlier number at text = do
  add ← or_refuse (added_of (behind_digits text)) number at causes.InvalidNumber
  place ← earlier_of earlier number at (digits_in_front text)
  Ok (Kept place add)

abbrev pub fixed_of : Option ℤ → ℕ → ℕ → Result Expr ScriptFault
fixed_of (Some v) number at = Ok (Fixed v)
fixed_of None number at = refuse number at causes.InvalidNumber

abbrev pub expression_of : ℕ → ℕ → ℕ → List ℕ → Result Expr ScriptFault
expression_of earlier number at [] = refuse number at causes.InvalidNumber
expression_of earlier number at (b ∷ bs) = if b == 36 then kept_of earlier number at bs else fixed_of (value_of (b ∷ bs)) number at

-- an expression after this many earlier statements, and the place after it
unfoldable pub expression_at : ℕ → ℕ → ℕ → List ℕ → Result (Expr × ℕ) ScriptFault
expression_at earlier number at line = do
  word ← word_at number at line
  e ← expression_of earlier number word.start (text_of word line)
  Ok (e, word.end)
