-- Lists of pairs with the same members, and their eight counts.
use Rattle.std.proofs.Common.{◌≡◌, inl, inr, ℕ, ◌≤◌, List, ◌∷◌, [], ◌++◌, subst, arith}
use Rattle.std.proofs.lemmas.Bool.Decides.{eqb_tells}
use Rattle.cam_names.specs.Dependencies.{greatest_count, as_counts, pairs_of}
use Rattle.cam_event.proofs.Members.{In, in_append, in_left, in_right}
use Rattle.cam_cut.proofs.DepsFacts.{InRange}
use Rattle.cam_cut.proofs.Pairs.{OneCount, greatest_ge, greatest_in, greatest_one, pairs_in, in_pairs}

-- each pair of the one is among the other
abbrev pub Within : List (ℕ × ℕ) → List (ℕ × ℕ) → Type 0
Within ps qs = (p : ℕ × ℕ) → In p ps → In p qs

-- two lists have the same pairs
pub record SamePairs (ps qs : List (ℕ × ℕ)) : Type 0 where
  pub there : Within ps qs
  pub back : Within qs ps

pub same_refl : (ps : List (ℕ × ℕ)) → SamePairs ps ps
same_refl ps = record { there = λ p h. h; back = λ p h. h }

pub same_sym : (ps qs : List (ℕ × ℕ)) → SamePairs ps qs → SamePairs qs ps
same_sym ps qs h = record { there = h.back; back = h.there }

pub same_trans : (ps qs rs : List (ℕ × ℕ)) → SamePairs ps qs → SamePairs qs rs → SamePairs ps rs
same_trans ps qs rs h g = record { there = λ p i. g.there p (h.there p i); back = λ p i. h.back p (g.back p i) }

within_append : (ps qs rs os : List (ℕ × ℕ)) → Within ps rs → Within qs os → Within (ps ++ qs) (rs ++ os)
within_append ps qs rs os h g p i = elim (in_append ps qs p i) [ inl x ↦ in_left rs os p (h p x) | inr y ↦ in_right rs os p (g p y) ]

pub same_append : (ps qs rs os : List (ℕ × ℕ)) → SamePairs ps rs → SamePairs qs os → SamePairs (ps ++ qs) (rs ++ os)
same_append ps qs rs os h g = record { there = within_append ps qs rs os h.there g.there; back = within_append rs os ps qs h.back g.back }

-- The greatest count of a node is none less with more pairs,
greatest_within : (ps qs : List (ℕ × ℕ)) (n : ℕ) → Within ps qs → greatest_count ps n ≤ greatest_count qs n
greatest_within ps qs n h = elim (eqb_tells (greatest_count ps n) 0) [
  | inl y ↦ omega (arith, y.1)
  | inr x ↦ greatest_ge qs (n, greatest_count ps n) (h (n, greatest_count ps n) (greatest_in ps n (omega (arith, x.1))))
]

-- so it goes by the pairs alone,
greatest_same : (ps qs : List (ℕ × ℕ)) (n : ℕ) → SamePairs ps qs → greatest_count ps n ≡ greatest_count qs n
greatest_same ps qs n h = omega (arith, greatest_within ps qs n h.there, greatest_within qs ps n h.back)

-- and with it the eight counts.
pub counts_same : (ps qs : List (ℕ × ℕ)) → SamePairs ps qs → as_counts ps ≡ as_counts qs
counts_same ps qs h =
    λ i. greatest_same ps qs 1 h i ∷ greatest_same ps qs 2 h i ∷ greatest_same ps qs 3 h i ∷ greatest_same ps qs 4 h i ∷ greatest_same ps qs 5 h i ∷ greatest_same ps qs 6 h i ∷ greatest_same ps qs 7 h i ∷ greatest_same ps qs 8 h i ∷ []

-- Of pairs with one count for each of the eight nodes the counts keep each pair.
pub counts_pairs : (ps : List (ℕ × ℕ)) → OneCount ps → ((p : ℕ × ℕ) → In p ps → InRange p.0 p.1) → SamePairs (pairs_of (as_counts ps)) ps
counts_pairs ps single ranged = record {
  there = pairs_in ps;
  back = λ p i.
      let range = ranged p i in
      let most : greatest_count ps p.0 ≡ p.1 = greatest_one ps p single i in
      subst (λ (k : ℕ). In (p.0, k) (pairs_of (as_counts ps))) most (in_pairs ps p.0 range.0 (omega (arith, most, range.1)));
}
