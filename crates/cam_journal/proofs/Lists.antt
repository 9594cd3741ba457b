-- Lists read by place, after one more element.
use Rattle.std.proofs.Common.{◌≡◌, ◌⊎◌, ℕ, zero, suc, ◌<◌, List, [], ◌∷◌, ◌++◌, length, Some, refl, inl, inr, ⊎_elim, arith}
use Rattle.std.specs.Prelude.{slice_get}

module _ {A : Type 0} where
  -- what stands in the front stands there in the whole
  pub slice_get-longer : (xs ys : List A) (k : ℕ) (a : A) → slice_get xs k ≡ Some a → slice_get (xs ++ ys) k ≡ Some a
  slice_get-longer [] ys k a e = absurd (cc)
  slice_get-longer (x ∷ xs) ys zero a e = e
  slice_get-longer (x ∷ xs) ys (suc k) a e = slice_get-longer xs ys k a e

  -- what stands in a list with one more element stands in the list, or is that element
  pub slice_get-push : (xs : List A) (x a : A) (k : ℕ) → slice_get (xs ++ x ∷ []) k ≡ Some a → ((k < length xs) × (slice_get xs k ≡ Some a)) ⊎ ((k ≡ length xs) × (x ≡ a))
  slice_get-push [] x a zero e = inr (refl, cc)
  slice_get-push [] x a (suc k) e = absurd (cc)
  slice_get-push (y ∷ ys) x a zero e = inl (omega arith, e)
  slice_get-push (y ∷ ys) x a (suc k) e = ⊎_elim (λ t. let below = t.0 in inl (omega arith, t.1)) (λ t. let here = t.0 in inr (omega arith, t.1)) (slice_get-push ys x a k e)

  -- the new element stands at the end
  pub slice_get-end : (xs : List A) (x : A) → slice_get (xs ++ x ∷ []) (length xs) ≡ Some x
  slice_get-end [] x = refl
  slice_get-end (y ∷ ys) x = slice_get-end ys x
