-- Dependencies as eight counts, where pairs are put together.
use Rattle.std.proofs.Common.{◌≡◌, ℕ, zero, suc, ◌+◌, ◌<◌, max, eqb, Bool, true, false, if◌then◌else◌, List, [], ◌∷◌, ◌++◌, length, get_or, refl, sym, ap, ◌∙◌, arith, inl, inr}
use Rattle.std.specs.Prelude.{replicate}
use borrow.Author.Tests.{eqb-true}
use Rattle.std.proofs.lemmas.Bool.{cases_Bool, eq-eqb}
use Rattle.cam_names.specs.Dependencies.{greatest_count, as_counts, pairs_from, pairs_of, greater_counts}

-- the greatest count that both together have of a node
greatest_append : (xs ys : List (ℕ × ℕ)) (m : ℕ) → greatest_count (xs ++ ys) m ≡ max (greatest_count ys m) (greatest_count xs m)
greatest_append [] ys m = omega arith
greatest_append (x ∷ xs) ys m = by (eqb x.0 m) (greatest_append xs ys m)
  where
    by : (t : Bool) → greatest_count (xs ++ ys) m ≡ max (greatest_count ys m) (greatest_count xs m)
        → (if t then max x.1 (greatest_count (xs ++ ys) m) else greatest_count (xs ++ ys) m)
        ≡ max (greatest_count ys m) (if t then max x.1 (greatest_count xs m) else greatest_count xs m)
    by true rest = omega (arith, rest)
    by false rest = rest

-- both together have the greater count of each node
pub counts_append : (xs ys : List (ℕ × ℕ)) → as_counts (xs ++ ys) ≡ greater_counts (as_counts ys) (as_counts xs)
counts_append xs ys =
    λ i. greatest_append xs ys 1 i ∷ greatest_append xs ys 2 i ∷ greatest_append xs ys 3 i ∷ greatest_append xs ys 4 i ∷ greatest_append xs ys 5 i ∷ greatest_append xs ys 6 i ∷ greatest_append xs ys 7 i ∷ greatest_append xs ys 8 i ∷ []

none_first : (cs : List ℕ) (n : ℕ) → length cs ≡ n → greater_counts (replicate n 0) cs ≡ cs
none_first [] zero is = refl
none_first [] (suc n) is = absurd (omega (arith, is))
none_first (c ∷ cs) zero is = absurd (omega (arith, is))
none_first (c ∷ cs) (suc n) is = let e : max 0 c ≡ c = omega arith in λ i. e i ∷ none_first cs n (omega (arith, is)) i

pub none_gains : (cs : List ℕ) → length cs ≡ 8 → greater_counts (replicate 8 0) cs ≡ cs
none_gains cs is = none_first cs 8 is

-- The pairs of counts have these counts.
greatest_below : (first : ℕ) (cs : List ℕ) (m : ℕ) → m < first → greatest_count (pairs_from first cs) m ≡ 0
greatest_below first [] m below = refl
greatest_below first (c ∷ cs) m below = by (eqb c 0) (greatest_below (first + 1) cs m (omega (arith, below)))
  where
    apart : eqb first m ≡ false
    apart = elim (cases_Bool (eqb first m)) [ inl same ↦ absurd (omega (arith, below, eqb-true first m same)) | inr other ↦ other ]

    by : (t : Bool) → greatest_count (pairs_from (first + 1) cs) m ≡ 0
        → greatest_count (if t then pairs_from (first + 1) cs else ((first, c) ∷ pairs_from (first + 1) cs)) m ≡ 0
    by true rest = rest
    by false rest = ap (λ (t : Bool). if t then max c (greatest_count (pairs_from (first + 1) cs) m) else greatest_count (pairs_from (first + 1) cs) m) apart ∙ rest

greatest_at : (first : ℕ) (cs : List ℕ) (k m : ℕ) → m ≡ first + k → greatest_count (pairs_from first cs) m ≡ get_or cs k 0
greatest_at first [] k m is = refl
greatest_at first (c ∷ cs) zero m is = by (eqb c 0) refl
  where
    none : greatest_count (pairs_from (first + 1) cs) m ≡ 0
    none = greatest_below (first + 1) cs m (omega (arith, is))

    by : (t : Bool) → eqb c 0 ≡ t → greatest_count (if t then pairs_from (first + 1) cs else ((first, c) ∷ pairs_from (first + 1) cs)) m ≡ c
    by true zeroth = none ∙ sym (eqb-true c 0 zeroth)
    by false some =
        ap (λ (t : Bool). if t then max c (greatest_count (pairs_from (first + 1) cs) m) else greatest_count (pairs_from (first + 1) cs) m) (eq-eqb first m (omega (arith, is)))
        ∙ (let e = none in omega (arith, e))
greatest_at first (c ∷ cs) (suc k) m is = by (eqb c 0) (greatest_at (first + 1) cs k m (omega (arith, is)))
  where
    apart : eqb first m ≡ false
    apart = elim (cases_Bool (eqb first m)) [ inl same ↦ absurd (omega (arith, is, eqb-true first m same)) | inr other ↦ other ]

    by : (t : Bool) → greatest_count (pairs_from (first + 1) cs) m ≡ get_or cs k 0
        → greatest_count (if t then pairs_from (first + 1) cs else ((first, c) ∷ pairs_from (first + 1) cs)) m ≡ get_or cs k 0
    by true rest = rest
    by false rest = ap (λ (t : Bool). if t then max c (greatest_count (pairs_from (first + 1) cs) m) else greatest_count (pairs_from (first + 1) cs) m) apart ∙ rest

each_of : (cs : List ℕ) → length cs ≡ 8
    → get_or cs 0 0 ∷ get_or cs 1 0 ∷ get_or cs 2 0 ∷ get_or cs 3 0 ∷ get_or cs 4 0 ∷ get_or cs 5 0 ∷ get_or cs 6 0 ∷ get_or cs 7 0 ∷ [] ≡ cs
each_of (a ∷ b ∷ c ∷ d ∷ e ∷ f ∷ g ∷ h ∷ []) is = refl
each_of [] is = absurd (omega (arith, is))
each_of (a ∷ []) is = absurd (omega (arith, is))
each_of (a ∷ b ∷ []) is = absurd (omega (arith, is))
each_of (a ∷ b ∷ c ∷ []) is = absurd (omega (arith, is))
each_of (a ∷ b ∷ c ∷ d ∷ []) is = absurd (omega (arith, is))
each_of (a ∷ b ∷ c ∷ d ∷ e ∷ []) is = absurd (omega (arith, is))
each_of (a ∷ b ∷ c ∷ d ∷ e ∷ f ∷ []) is = absurd (omega (arith, is))
each_of (a ∷ b ∷ c ∷ d ∷ e ∷ f ∷ g ∷ []) is = absurd (omega (arith, is))
each_of (a ∷ b ∷ c ∷ d ∷ e ∷ f ∷ g ∷ h ∷ j ∷ more) is = absurd (omega (arith, is))

pub counts_of_pairs : (cs : List ℕ) → length cs ≡ 8 → as_counts (pairs_of cs) ≡ cs
counts_of_pairs cs is =
    (λ i. greatest_at 1 cs 0 1 refl i ∷ greatest_at 1 cs 1 2 refl i ∷ greatest_at 1 cs 2 3 refl i ∷ greatest_at 1 cs 3 4 refl i ∷ greatest_at 1 cs 4 5 refl i ∷ greatest_at 1 cs 5 6 refl i ∷ greatest_at 1 cs 6 7 refl i ∷ greatest_at 1 cs 7 8 refl i ∷ [])
    ∙ each_of cs is
