-- A list that differs from another at one place.
use Rattle.std.proofs.Common.{◌≡◌, ◌≢◌, ℕ, zero, suc, List, [], ◌∷◌, length, set, refl, arith}
use Rattle.std.specs.Prelude.{Some, slice_get}
use Rattle.std.proofs.lemmas.Option.{same_Some}

module _ {X : Type 0} where
  -- two lists that have the same at each place are one
  all_same : (xs ys : List X) → ((at : ℕ) → slice_get ys at ≡ slice_get xs at) → ys ≡ xs
  all_same [] [] same = refl
  all_same [] (y ∷ ys) same = absurd (let none = same 0 in cc)
  all_same (x ∷ xs) [] same = absurd (let none = same 0 in cc)
  all_same (x ∷ xs) (y ∷ ys) same =
      (λ i. same_Some y x (same 0) i ∷ all_same xs ys (λ at. same (suc at)) i)

  -- a list with this at a place, and elsewhere as another
  pub set_is : (xs ys : List X) (at : ℕ) (x : X) → length ys ≡ length xs
      → slice_get ys at ≡ Some x
      → ((other : ℕ) → other ≢ at → slice_get ys other ≡ slice_get xs other) → ys ≡ set xs at x
  set_is [] [] at x long here there = refl
  set_is [] (y ∷ ys) at x long here there = absurd (omega arith)
  set_is (z ∷ xs) [] at x long here there = absurd (omega arith)
  set_is (z ∷ xs) (y ∷ ys) zero x long here there =
      let first : y ≡ x = same_Some y x here in
      let rest : ys ≡ xs = all_same xs ys (λ at. there (suc at) (λ none. omega arith)) in
      (λ i. first i ∷ rest i)
  set_is (z ∷ xs) (y ∷ ys) (suc at) x long here there =
      let first : y ≡ z = same_Some y z (there 0 (λ none. omega arith)) in
      let rest : ys ≡ set xs at x =
      set_is xs ys at x (omega arith) here
      (λ other apart. there (suc other) (λ same. apart (omega arith))) in
      (λ i. first i ∷ rest i)
