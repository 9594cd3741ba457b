-- Appends that a stop cuts off.
use Rattle.std.proofs.Common.{◌⊎◌, inl, inr, ℕ, Option, arith}
use Rattle.cam_log.specs.CutOff.{IsCutOff}
use Rattle.cam_log.proofs.CutOff.{cut_sooner}

-- what those calls did that were left, in other words
pub cut_as : {P : Type 0} {passes left : Option ℕ} {Did All : ℕ → Type 0}
    → ((calls : ℕ) → Did calls → All calls) → P ⊎ IsCutOff 4 passes left Did
    → P ⊎ IsCutOff 4 passes left All
cut_as each (inl other) = inl other
cut_as each (inr cut) =
    inr (cut_sooner 4 4 _ _ _ _ (omega arith) (λ calls fewer did. each calls did) cut)
