-- To be told nothing changes nothing.
use Rattle.std.proofs.Common.{◌≡◌, ℕ, zero, suc, ◌≤◌, ◌<◌, List, [], ◌∷◌, length, get_or, replicate, refl, ap₂, arith}
use Rattle.std.proofs.lemmas.List.{append-nil}
use Rattle.cam_names.specs.Dependencies.{AreCounts, greater_counts}
use Rattle.cam_know.specs.Knowledge.{Knowledge}
use Rattle.cam_know.specs.Known.{nothing, both}

pub greater_ones : (n : ℕ) (cs : List ℕ) → length cs ≡ n → ((k : ℕ) → k < n → 1 ≤ get_or cs k 0) → greater_counts cs (replicate n 1) ≡ cs
greater_ones zero [] is low = refl
greater_ones zero (c ∷ cs) is low = refl
greater_ones (suc n) [] is low = absurd (omega (arith, is))
greater_ones (suc n) (c ∷ cs) is low =
    let first : 1 ≤ c = low 0 (omega arith) in
    ap₂ (λ (x : ℕ) (xs : List ℕ). x ∷ xs) (omega (arith, first)) (greater_ones n cs (omega (arith, is)) (λ k below. low (suc k) (omega (arith, below))))

pub both_nothing : (k : Knowledge) → AreCounts 1 k.counts → both k nothing ≡ k
both_nothing k counts = λ i. record { outcomes = append-nil k.outcomes i; counts = greater_ones 8 k.counts counts.eight counts.from i }
