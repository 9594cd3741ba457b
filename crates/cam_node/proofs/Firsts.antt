-- The first outcomes of a list, none of which comes twice.
use Rattle.std.proofs.Common.{◌≡◌, ℕ, zero, suc, Bool, false, List, [], ◌∷◌, take, refl, sym, subst}
use Rattle.std.specs.List.{list_any}
use Rattle.std.proofs.lemmas.Bool.{or_parts, or_from}
use Rattle.cam_know.specs.declared.Outcome.{Outcome}
use Rattle.cam_know.specs.Known.{outcome_eq}
use Rattle.cam_know.specs.Invariant.{NoTwice}

any_first : (p : Outcome → Bool) (n : ℕ) (os : List Outcome) → list_any p os ≡ false → list_any p (take n os) ≡ false
any_first p zero os none = refl
any_first p (suc n) [] none = refl
any_first p (suc n) (o ∷ os) none =
    let parts = or_parts (p o) (list_any p os) none in or_from (p o) (list_any p (take n os)) parts.0 (any_first p n os parts.1)

pub distinct_first : (n : ℕ) (os : List Outcome) → NoTwice os → NoTwice (take n os)
distinct_first zero os distinct = tt
distinct_first (suc n) [] distinct = tt
distinct_first (suc n) (o ∷ os) distinct = (any_first (outcome_eq o) n os distinct.0, distinct_first n os distinct.1)

pub first_distinct : (n : ℕ) (os ps first : List Outcome) → first ≡ take n os → ps ≡ os → NoTwice ps → NoTwice first
first_distinct n os ps first is same distinct = subst NoTwice (sym is) (distinct_first n os (subst NoTwice same distinct))
