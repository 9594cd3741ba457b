-- The places of words among the columns at which words begin.
use Rattle.std.proofs.Common.{◌≡◌, ℕ, suc, ◌+◌, ◌-◌, ◌<◌, List, ◌∷◌, get_or, refl, arith}

pub one_more : (c : ℕ) (cs : List ℕ) (place words d : ℕ) → words < place → get_or (c ∷ cs) (place - words) d ≡ get_or cs (place - (words + 1)) d
one_more c cs place words d h =
    let e : place - words ≡ suc (place - (words + 1)) = omega arith in
    rw e refl

pub found : (c : ℕ) (cs : List ℕ) (place words d : ℕ) → words ≡ place → get_or (c ∷ cs) (place - words) d ≡ c
found c cs place words d h =
    let e : place - words ≡ 0 = omega arith in
    rw e refl
