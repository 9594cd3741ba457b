-- One or the other.
use Rattle.std.proofs.Common.{◌≡◌, Bool, true, false, ◌||◌, refl}

pub or_first : (x y : Bool) → x ≡ true → x ≡ (x || y)
or_first true y h = refl
or_first false y h = cc

pub or_second : (x y : Bool) → x ≡ false → y ≡ (x || y)
or_second false y h = refl
or_second true y h = cc
