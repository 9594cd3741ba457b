-- An element at a place of a list, as code reads and sets it.
use Rattle.std.proofs.Common.{◌≡◌, ◌≢◌, ℕ, zero, suc, ◌<◌, List, [], ◌∷◌, length, get_or, set, refl, sym, ap, ◌∙◌, arith}
use Rattle.std.specs.Prelude.{Some, slice_get}
use Rattle.std.proofs.lemmas.List.{set-get_or, get_or-set_same, length-set}
use Rattle.std.proofs.lemmas.Option.{slice_get-get_or}

module _ {X : Type 0} where
  -- an element that stands at a place, read as code reads it
  pub here : (xs : List X) (at : ℕ) (x : X) → x ≡ get_or xs at x → at < length xs
      → slice_get xs at ≡ Some x
  here xs at x is within = slice_get-get_or xs at x within ∙ ap Some (sym is)

  -- so in an equal list
  pub here_too : (xs ys : List X) (at : ℕ) (x : X) → xs ≡ ys → x ≡ get_or xs at x → at < length ys
      → slice_get ys at ≡ Some x
  here_too xs ys at x same is within =
      here ys at x (is ∙ ap (λ (l : List X). get_or l at x) same) within

  -- an element put back is no change
  pub put_back : (xs : List X) (at : ℕ) (x y : X) → y ≡ x → x ≡ get_or xs at x → set xs at y ≡ xs
  put_back xs at x y same is = ap (set xs at) (same ∙ is) ∙ set-get_or xs at x

  -- a place within a list has an element
  pub place_of : (xs : List X) (at : ℕ) → at < length xs → (x : X) × (slice_get xs at ≡ Some x)
  place_of [] at within = absurd (omega arith)
  place_of (x ∷ xs) zero within = (x, refl)
  place_of (x ∷ xs) (suc at) within = place_of xs at (omega arith)

  -- what was set stands at its place, and elsewhere stands what stood there
  pub set_here : (xs : List X) (at : ℕ) (x : X) → at < length xs → slice_get (set xs at x) at ≡ Some x
  set_here xs at x within =
      slice_get-get_or (set xs at x) at x (omega (arith, within, length-set xs at x))
      ∙ ap Some (get_or-set_same xs at x x within)

  pub set_there : (xs : List X) (at other : ℕ) (x : X) → other ≢ at
      → slice_get (set xs at x) other ≡ slice_get xs other
  set_there [] at other x apart = refl
  set_there (y ∷ ys) zero zero x apart = absurd (apart refl)
  set_there (y ∷ ys) zero (suc other) x apart = refl
  set_there (y ∷ ys) (suc at) zero x apart = refl
  set_there (y ∷ ys) (suc at) (suc other) x apart =
      set_there ys at other x (λ same. apart (ap suc same))
