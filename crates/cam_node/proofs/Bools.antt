-- Both of two tests.
use Rattle.std.proofs.Common.{◌≡◌, Bool, true, ◌&&◌}
use Rattle.std.proofs.lemmas.Bool.{and_parts}

pub first_of : (x y : Bool) → (x && y) ≡ true → x ≡ true
first_of x y both = (and_parts x y both).0

pub second_of : (x y : Bool) → (x && y) ≡ true → y ≡ true
second_of x y both = (and_parts x y both).1
