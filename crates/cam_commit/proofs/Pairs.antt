-- The pairs of eight counts, one count after the other.
use Rattle.std.proofs.Common.{◌≡◌, ℕ, zero, suc, Bool, true, List, [], ◌∷◌, length, drop, arith, refl}
use Rattle.std.specs.List.{list_all}
use Rattle.cam_names.specs.Dependencies.{pairs_from}

-- the test holds of the pairs of the counts from the place k on
abbrev pub all_from : (ℕ × ℕ → Bool) → ℕ → ℕ → List ℕ → Bool
all_from test first k counts = list_all test (pairs_from first (drop k counts))

-- nothing is behind the last
pub all_past : (test : ℕ × ℕ → Bool) (first k : ℕ) (counts : List ℕ) → length counts ≡ k → all_from test first k counts ≡ true
all_past test first zero [] is = refl
all_past test first (suc k) [] is = refl
all_past test first zero (c ∷ cs) is = absurd (omega (arith, is))
all_past test first (suc k) (c ∷ cs) is = all_past test first k cs (omega (arith, is))
