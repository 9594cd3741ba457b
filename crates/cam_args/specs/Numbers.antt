-- A number without a sign or a leading zero.
use Rattle.std.specs.Prelude.{ℕ, ◌==◌, nat_lt, Bool, false, List, [], ◌∷◌, length, if◌then◌else◌}

-- 0 alone, or a word that begins with a byte above 0's
abbrev pub is_plain : List ℕ → Bool
is_plain [] = false
is_plain (b ∷ bs) = if b == 48 then length bs == 0 else nat_lt 48 b
