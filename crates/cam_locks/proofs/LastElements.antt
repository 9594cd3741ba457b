-- The last element of a list, and one taken out of it.
use Rattle.std.proofs.Common.{◌≡◌, ◌⊎◌, ℕ, ◌+◌, ◌-◌, ◌≤◌, ◌<◌, List, [], ◌∷◌, ◌++◌, length, take, drop, get_or, set, Some, None, zero, suc, refl, sym, ap, ◌∙◌, arith}
use Rattle.std.proofs.Math.Logic.{inl, inr}
use Rattle.std.specs.Prelude.{slice_get}
use Rattle.cam_locks.specs.Changes.{last_of}

-- what stands at a place of a list
pub got_at : {X : Type 0} (xs : List X) (k : ℕ) (x : X) → k < length xs → x ≡ get_or xs k x → slice_get xs k ≡ Some x
got_at [] k x lt is = absurd (omega arith)
got_at (y ∷ xs) zero x lt is = ap Some (sym is)
got_at (y ∷ xs) (suc k) x lt is = got_at xs k x (omega arith) is

-- what stands at the last place is the last element
pub last_at : {X : Type 0} (xs : List X) (k : ℕ) (x : X) → length xs ≡ k + 1 → x ≡ get_or xs k x → last_of xs ≡ Some x
last_at xs k x len is = let at : length xs - 1 ≡ k = omega (arith, len) in ap (slice_get xs) at ∙ got_at xs k x (omega (arith, len)) is

-- a list without elements has no last one
pub last_none : {X : Type 0} (xs : List X) → length xs ≡ 0 → last_of xs ≡ None
last_none [] h = refl
last_none (x ∷ xs) h = absurd (omega (arith, h))

-- a list is empty, or it is what stands before its last element and that
pub split_last : {X : Type 0} (xs : List X) → (xs ≡ []) ⊎ ((ys : List X) × (y : X) × (xs ≡ ys ++ y ∷ []))
split_last [] = inl refl
split_last {X} (x ∷ xs) = inr (by_rest (split_last xs))
  where
    by_rest : (xs ≡ []) ⊎ ((ys : List X) × (y : X) × (xs ≡ ys ++ y ∷ [])) → (ys : List X) × (y : X) × (x ∷ xs ≡ ys ++ y ∷ [])
    by_rest (inl e) = ([], x, ap (λ (zs : List X). x ∷ zs) e)
    by_rest (inr r) = (x ∷ r.0, r.1, ap (λ (zs : List X). x ∷ zs) r.2)

length_snoc : {X : Type 0} (xs : List X) (x : X) → length (xs ++ x ∷ []) ≡ length xs + 1
length_snoc [] x = refl
length_snoc (y ∷ xs) x = let rest : length (xs ++ x ∷ []) ≡ length xs + 1 = length_snoc xs x in omega (arith, rest)

get_snoc : {X : Type 0} (xs : List X) (x : X) → slice_get (xs ++ x ∷ []) (length xs) ≡ Some x
get_snoc [] x = refl
get_snoc (y ∷ xs) x = get_snoc xs x

end_snoc : {X : Type 0} (xs : List X) (x : X) → length (xs ++ x ∷ []) - 1 ≡ length xs
end_snoc xs x = let len : length (xs ++ x ∷ []) ≡ length xs + 1 = length_snoc xs x in omega (arith, len)

-- an element that is put at the end is the last
pub last_snoc : {X : Type 0} (xs : List X) (x : X) → last_of (xs ++ x ∷ []) ≡ Some x
last_snoc xs x = ap (slice_get (xs ++ x ∷ [])) (end_snoc xs x) ∙ get_snoc xs x

set_end : {X : Type 0} (xs : List X) (x y : X) → set (xs ++ x ∷ []) (length xs) y ≡ xs ++ y ∷ []
set_end [] x y = refl
set_end {X} (z ∷ xs) x y = ap (λ (zs : List X). z ∷ zs) (set_end xs x y)

-- to set the last element of a list
pub set_snoc : {X : Type 0} (xs : List X) (x y : X) → set (xs ++ x ∷ []) (length (xs ++ x ∷ []) - 1) y ≡ xs ++ y ∷ []
set_snoc xs x y = ap (λ (k : ℕ). set (xs ++ x ∷ []) k y) (end_snoc xs x) ∙ set_end xs x y

-- an element at a place, with what stands before and behind it
pub split_at : {X : Type 0} (xs : List X) (k : ℕ) (x : X) → k < length xs → x ≡ get_or xs k x → xs ≡ take k xs ++ x ∷ drop (suc k) xs
split_at [] k x lt is = absurd (omega arith)
split_at {X} (y ∷ xs) zero x lt is = ap (λ (z : X). z ∷ xs) (sym is)
split_at {X} (y ∷ xs) (suc k) x lt is = ap (λ (zs : List X). y ∷ zs) (split_at xs k x (omega arith) is)

-- what stands before an element that is taken out stays
pub take_removed : {X : Type 0} (xs : List X) (k : ℕ) → k ≤ length xs → take k (take k xs ++ drop (suc k) xs) ≡ take k xs
take_removed xs zero le = refl
take_removed [] (suc k) le = absurd (omega arith)
take_removed {X} (x ∷ xs) (suc k) le = ap (λ (zs : List X). x ∷ zs) (take_removed xs k (omega arith))
