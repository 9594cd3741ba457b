-- The last part of a name stands at its last place.
use Rattle.std.proofs.Common.{◌≡◌, ℕ, List, [], ◌∷◌, length, get_or, zero, suc, refl, arith}
use Rattle.cam_names.specs.Part.{PartFields}
use Rattle.cam_names.specs.Names.{last_part}

pub last_at : (a : List PartFields) (n : ℕ) (d : PartFields) → length a ≡ suc n → last_part a ≡ get_or a n d
last_at [] n d h = absurd (omega (arith, h))
last_at (p ∷ []) zero d h = refl
last_at (p ∷ []) (suc n) d h = absurd (omega (arith, h))
last_at (p ∷ q ∷ a) zero d h = absurd (omega (arith, h))
last_at (p ∷ q ∷ a) (suc n) d h = last_at (q ∷ a) n d (omega (arith, h))
