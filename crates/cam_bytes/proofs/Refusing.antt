-- What a fault of a part says of the whole.
use Rattle.std.proofs.Common.{◌≡◌, ℕ, zero, suc, ◌<◌, ◌≤◌, List, Result, Ok, Err, refl, sym, ◌∙◌, arith, subst}
use Rattle.cam_bytes.specs.declared.WireFault.{WireFault}
use Rattle.cam_bytes.specs.declared.WireFault.TheVariants.{Short, BadTag, BadNumber, Order, Rest, NoMemory}
use Rattle.cam_bytes.specs.Refuses.{Refuses}
use Rattle.cam_bytes.specs.Reading.{◌>>=◌}

-- a fault of a step is that of the whole
pub refuses_err : {A : Type 0} (reading : Result A WireFault) (fault : WireFault) → reading ≡ Err fault → Refuses fault reading
refuses_err reading (Short at) e = e
refuses_err reading (BadTag at) e = e
refuses_err reading (BadNumber at) e = e
refuses_err reading (Order at) e = e
refuses_err reading (Rest at) e = e
refuses_err reading NoMemory e = tt

pub refuses_then : {A B : Type 0} (one : Result A WireFault) (next : A → Result B WireFault) (fault : WireFault) → Refuses fault one → Refuses fault (one >>= next)
refuses_then one next (Short at) r = rw r refl
refuses_then one next (BadTag at) r = rw r refl
refuses_then one next (BadNumber at) r = rw r refl
refuses_then one next (Order at) r = rw r refl
refuses_then one next (Rest at) r = rw r refl
refuses_then one next NoMemory r = tt

-- loops over a number of items: `from` is what is still to come
module _ (X : Type 0) (from : ℕ → X → ℕ → List ℕ → Result (X × ℕ) WireFault) where
  pub refused_here : (left : ℕ) (xs : X) (at : ℕ) (bytes : List ℕ) (whole : Result (X × ℕ) WireFault) (fault : WireFault) → 0 < left → ((m : ℕ) → Refuses fault (from (suc m) xs at bytes)) → from left xs at bytes ≡ whole → Refuses fault whole
  refused_here zero xs at bytes whole fault some refused same = absurd (omega (arith, some))
  refused_here (suc m) xs at bytes whole fault some refused same = subst (λ (r : Result (X × ℕ) WireFault). Refuses fault r) same (refused m)

  pub ended_here : ((xs : X) (at : ℕ) (bytes : List ℕ) → from zero xs at bytes ≡ Ok (xs, at)) → (left : ℕ) (xs : X) (at : ℕ) (bytes : List ℕ) (whole : Result (X × ℕ) WireFault) → left ≤ 0 → from left xs at bytes ≡ whole → whole ≡ Ok (xs, at)
  ended_here ends zero xs at bytes whole none same = sym same ∙ ends xs at bytes
  ended_here ends (suc m) xs at bytes whole none same = absurd (omega (arith, none))
