-- Dependencies on one node have one pair.
use Rattle.std.proofs.Common.{◌≡◌, ℕ, zero, suc, ◌+◌, ◌-◌, ◌≤◌, ◌<◌, eqb, false, List, [], ◌∷◌, length, get_or, set, replicate, arith, sym, ap, ◌∙◌, refl}
use Rattle.std.proofs.lemmas.List.{take_all}
use Rattle.cam_names.specs.Part.{PartFields}
use Rattle.cam_names.specs.Names.{last_part}
use Rattle.cam_names.specs.Dependencies.{pairs_of, pairs_from}
use Rattle.cam_names.proofs.Names.{last_part_taken}

no_pairs : (first m : ℕ) → pairs_from first (replicate m 0) ≡ []
no_pairs first zero = refl
no_pairs first (suc m) = no_pairs (first + 1) m

pair_at : (first m k count : ℕ) → k < m → 1 ≤ count → pairs_from first (set (replicate m 0) k count) ≡ (first + k, count) ∷ []
pair_at first zero k count below some = absurd (omega arith)
pair_at first (suc m) zero count below some =
    let is : eqb count 0 ≡ false = grind arith in
    rw is (ap (λ ps. (first, count) ∷ ps) (no_pairs (first + 1) m) ∙ ap (λ n. (n, count) ∷ []) (let e : first ≡ first + 0 = omega arith in e))
pair_at first (suc m) (suc k) count below some =
    pair_at (first + 1) m k count (omega arith) some ∙ ap (λ n. (n, count) ∷ []) (let e : (first + 1) + k ≡ first + suc k = omega arith in e)

pub one_pair : (node count : ℕ) → 1 ≤ node → node ≤ 8 → 1 ≤ count → pairs_of (set (replicate 8 0) (node - 1) count) ≡ (node, count) ∷ []
one_pair node count from to some = pair_at 1 8 (node - 1) count (omega arith) some ∙ ap (λ n. (n, count) ∷ []) (let e : 1 + (node - 1) ≡ node = omega arith in e)

-- the last part is the one at the last place
pub last_at : (a : List PartFields) (p : PartFields) → 1 ≤ length a → last_part a ≡ get_or a (length a - 1) p
last_at a p some =
    ap last_part (sym (take_all (suc (length a - 1)) a (omega arith))) ∙ last_part_taken a (length a - 1) p (omega arith)
