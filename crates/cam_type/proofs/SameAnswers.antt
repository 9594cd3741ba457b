-- The test of two answers decides whether they are the same.
use Rattle.std.proofs.Common.{◌≡◌, true, refl, ap}
use Rattle.std.proofs.lemmas.Bool.Decides.{Decides-int_eq}
use Rattle.cam_type.specs.Table.{answer_eq}
use Rattle.cam_type.specs.declared.Answer.{Answer}
use Rattle.cam_type.specs.declared.Answer.TheVariants.{Ok, Value, Empty}

-- equal answers are the same
pub answer_eq_same : (x y : Answer) → answer_eq x y ≡ true → x ≡ y
answer_eq_same Ok Ok h = refl
answer_eq_same (Value v) (Value w) h = ap (λ z. Value z) ((Decides-int_eq v w).0 h)
answer_eq_same Empty Empty h = refl
answer_eq_same Ok (Value w) h = cc
answer_eq_same Ok Empty h = cc
answer_eq_same (Value v) Ok h = cc
answer_eq_same (Value v) Empty h = cc
answer_eq_same Empty Ok h = cc
answer_eq_same Empty (Value w) h = cc

-- an answer equals itself
pub answer_eq_refl : (x : Answer) → answer_eq x x ≡ true
answer_eq_refl Ok = refl
answer_eq_refl (Value v) = (Decides-int_eq v v).1 refl
answer_eq_refl Empty = refl
