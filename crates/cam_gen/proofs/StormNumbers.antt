-- How many numbers there are up to one.
use Rattle.std.proofs.Common.{◌≡◌, ℕ, zero, suc, ◌+◌, ◌∷◌, [], ◌++◌, List, length, map, refl, sym, ap, ◌∙◌, arith}
use Rattle.std.proofs.lemmas.List.{length-append, map-append}
use Rattle.cam_gen.specs.Storms.{numbers}

one_more : (n : ℕ) → n + 1 ≡ suc n
one_more n = omega arith

pub length_numbers : (n : ℕ) → length (numbers n) ≡ n
length_numbers zero = refl
length_numbers (suc n) =
    length-append (numbers n) ((n + 1) ∷ []) ∙ ap (λ k. k + 1) (length_numbers n) ∙ one_more n

-- with one number more
pub mapped_more : {X : Type 0} (f : ℕ → X) (n : ℕ) (x : X) (xs : List X) → xs ≡ map f (numbers n)
    → x ≡ f (n + 1) → xs ++ x ∷ [] ≡ map f (numbers (n + 1))
mapped_more f n x xs are is =
    (λ i. are i ++ is i ∷ []) ∙ sym (map-append f (numbers n) ((n + 1) ∷ []))
    ∙ ap (λ k. map f (numbers k)) (sym (one_more n))
