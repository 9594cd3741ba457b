-- Laws of the least counts of pairs.
use Rattle.std.proofs.Common.{◌≡◌, ℕ, ◌+◌, ◌-◌, ◌≤◌, ◌<◌, eqb, false, true, List, [], ◌∷◌, ◌++◌, length, get_or, zero, suc, arith, sym, ap, ◌∙◌, refl, inl, inr}
use Rattle.cam_names.specs.Dependencies.{pairs_of, pairs_from}
use Rattle.std.proofs.lemmas.Bool.{cases_Bool, eqb-true, eq-eqb}
use Rattle.std.proofs.lemmas.Grind.{same_number_lists}
use Rattle.cam_know.specs.LeastCounts.{lesser_count, lesser_counts, least_count, least_counts}

pub lesser_to : (x y : ℕ) → x ≤ 1000000000 → y ≤ 1000000000 → lesser_count x y ≤ 1000000000
lesser_to x y h k = grind arith

lesser_nothing : (x : ℕ) → lesser_count x 0 ≡ x
lesser_nothing x = grind arith

pub lesser_assoc : (x y z : ℕ) → lesser_count x (lesser_count y z) ≡ lesser_count (lesser_count x y) z
lesser_assoc x y z = grind arith

pub lesser_counts_at : (a b : List ℕ) (k : ℕ) → get_or (lesser_counts a b) k 0 ≡ lesser_count (get_or a k 0) (get_or b k 0)
lesser_counts_at [] b k = refl
lesser_counts_at (c ∷ a) [] k = sym (lesser_nothing (get_or (c ∷ a) k 0))
lesser_counts_at (c ∷ a) (d ∷ b) zero = refl
lesser_counts_at (c ∷ a) (d ∷ b) (suc k) = lesser_counts_at a b k

pub lesser_counts_length : (a b : List ℕ) → length a ≡ length b → length (lesser_counts a b) ≡ length a
lesser_counts_length [] [] h = refl
lesser_counts_length [] (d ∷ b) h = absurd (omega arith)
lesser_counts_length (c ∷ a) [] h = refl
lesser_counts_length (c ∷ a) (d ∷ b) h = let rest : length (lesser_counts a b) ≡ length a = lesser_counts_length a b (omega arith) in omega arith

-- eight counts, each the lesser of two
pub lesser_counts_is : (a b counts : List ℕ) → length a ≡ 8 → length b ≡ 8 → length counts ≡ 8 → ((k : ℕ) → k < 8 → get_or counts k 0 ≡ lesser_count (get_or a k 0) (get_or b k 0)) → counts ≡ lesser_counts a b
lesser_counts_is a b counts la lb lc each =
    let long : length (lesser_counts a b) ≡ length a = lesser_counts_length a b (omega arith) in
    same_number_lists counts (lesser_counts a b) (omega arith) (λ k below. each k (omega arith) ∙ sym (lesser_counts_at a b k))

-- the least count of a node among the pairs of counts is its one count
least_before : (first : ℕ) (counts : List ℕ) (n : ℕ) → n < first → least_count (pairs_from first counts) n ≡ 0
least_before first [] n h = refl
least_before first (c ∷ counts) n h =
    elim (cases_Bool (eqb c 0)) [
      | inl none ↦ rw none (least_before (first + 1) counts n (omega arith))
      | inr some ↦ rw some (let other : eqb first n ≡ false = grind arith in rw other (least_before (first + 1) counts n (omega arith)))
    ]

least_from_place : (first : ℕ) (counts : List ℕ) (k : ℕ) → least_count (pairs_from first counts) (first + k) ≡ get_or counts k 0
least_from_place first [] k = refl
least_from_place first (c ∷ counts) zero =
    elim (cases_Bool (eqb c 0)) [
      | inl none ↦ rw none (least_before (first + 1) counts (first + 0) (omega arith) ∙ sym (eqb-true c 0 none))
      | inr some ↦ rw some (let here : eqb first (first + 0) ≡ true = eq-eqb first (first + 0) (omega arith) in
          let rest : least_count (pairs_from (first + 1) counts) (first + 0) ≡ 0 = least_before (first + 1) counts (first + 0) (omega arith) in
          rw here (ap (lesser_count c) rest ∙ lesser_nothing c))
    ]
least_from_place first (c ∷ counts) (suc k) =
    let next : first + suc k ≡ (first + 1) + k = omega arith in
    elim (cases_Bool (eqb c 0)) [
      | inl none ↦ rw none (ap (least_count (pairs_from (first + 1) counts)) next ∙ least_from_place (first + 1) counts k)
      | inr some ↦ rw some (let other : eqb first (first + suc k) ≡ false = grind arith in
          rw other (ap (least_count (pairs_from (first + 1) counts)) next ∙ least_from_place (first + 1) counts k))
    ]

least_of_counts : (counts : List ℕ) (n : ℕ) → 1 ≤ n → least_count (pairs_of counts) n ≡ get_or counts (n - 1) 0
least_of_counts counts n h = let e : n ≡ 1 + (n - 1) = omega arith in ap (least_count (pairs_of counts)) e ∙ least_from_place 1 counts (n - 1)

place_of_least : (ps : List (ℕ × ℕ)) (k : ℕ) → k < 8 → get_or (least_counts ps) k 0 ≡ least_count ps (k + 1)
place_of_least ps zero h = refl
place_of_least ps (suc zero) h = refl
place_of_least ps (suc (suc zero)) h = refl
place_of_least ps (suc (suc (suc zero))) h = refl
place_of_least ps (suc (suc (suc (suc zero)))) h = refl
place_of_least ps (suc (suc (suc (suc (suc zero))))) h = refl
place_of_least ps (suc (suc (suc (suc (suc (suc zero)))))) h = refl
place_of_least ps (suc (suc (suc (suc (suc (suc (suc zero))))))) h = refl
place_of_least ps (suc (suc (suc (suc (suc (suc (suc (suc k)))))))) h = absurd (omega arith)

-- the least counts among the pairs of eight counts are these counts
pub least_are_counts : (counts : List ℕ) → length counts ≡ 8 → least_counts (pairs_of counts) ≡ counts
least_are_counts counts eight =
    same_number_lists (least_counts (pairs_of counts)) counts (omega (arith, eight))
    (λ k below.
    place_of_least (pairs_of counts) k (omega (arith, below)) ∙ least_of_counts counts (k + 1) (omega arith)
    ∙ ap (λ (n : ℕ). get_or counts n 0) (let e : (k + 1) - 1 ≡ k = omega arith in e))

-- of pairs of two kinds the lesser
pub least_append : (ps qs : List (ℕ × ℕ)) (n : ℕ) → least_count (ps ++ qs) n ≡ lesser_count (least_count ps n) (least_count qs n)
least_append [] qs n = refl
least_append (p ∷ ps) qs n =
    elim (cases_Bool (eqb p.0 n)) [
      | inl here ↦ rw here (ap (lesser_count p.1) (least_append ps qs n) ∙ lesser_assoc p.1 (least_count ps n) (least_count qs n))
      | inr other ↦ rw other (least_append ps qs n)
    ]

pub least_counts_append : (ps qs : List (ℕ × ℕ)) → least_counts (ps ++ qs) ≡ lesser_counts (least_counts ps) (least_counts qs)
least_counts_append ps qs i =
    least_append ps qs 1 i ∷ least_append ps qs 2 i ∷ least_append ps qs 3 i ∷ least_append ps qs 4 i
    ∷ least_append ps qs 5 i ∷ least_append ps qs 6 i ∷ least_append ps qs 7 i ∷ least_append ps qs 8 i ∷ []
