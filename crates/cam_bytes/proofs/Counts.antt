-- Counts in their ranges: by their places, and one after the other.
use Rattle.std.proofs.Common.{◌≡◌, ℕ, zero, suc, ◌<◌, List, [], ◌∷◌, length, get_or, arith}
use Rattle.std.specs.List.{AllByRecursion}
use Rattle.cam_names.specs.Dependencies.{AreCounts}
use Rattle.cam_bytes.specs.Ranges.{IsFrom}

-- each of the counts is in its range, by its place
each_at : (least : ℕ) (cs : List ℕ) → AllByRecursion (IsFrom least 1000000000) cs → (k : ℕ) → k < length cs → IsFrom least 1000000000 (get_or cs k 0)
each_at least [] are k within = absurd (omega (arith, within))
each_at least (c ∷ cs) are zero within = are.0
each_at least (c ∷ cs) are (suc k) within = each_at least cs are.1 k (omega (arith, within))

pub are_counts : (least : ℕ) (cs : List ℕ) → length cs ≡ 8 → AllByRecursion (IsFrom least 1000000000) cs → AreCounts least cs
are_counts least cs eight each = record {
  eight = eight;
  from = λ k below. (each_at least cs each k (omega (arith, eight, below))).0;
  to = λ k below. (each_at least cs each k (omega (arith, eight, below))).1;
}

all_within : (least : ℕ) (cs : List ℕ) → ((k : ℕ) → k < length cs → IsFrom least 1000000000 (get_or cs k 0)) → AllByRecursion (IsFrom least 1000000000) cs
all_within least [] each = tt
all_within least (c ∷ cs) each = (each 0 (omega arith), all_within least cs (λ k below. each (suc k) (omega (arith, below))))

pub each_count : (least : ℕ) (cs : List ℕ) → AreCounts least cs → AllByRecursion (IsFrom least 1000000000) cs
each_count least cs are =
    all_within least cs (λ k below. let at : k < 8 = omega (arith, are.eight, below) in (are.from k at, are.to k at))
