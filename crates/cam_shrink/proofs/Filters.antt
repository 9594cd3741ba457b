-- What a filter leaves of a list, and of what another filter left.
use Rattle.std.proofs.Common.{◌≡◌, ◌≤◌, ◌&&◌, ℕ, Bool, true, false, cond, List, [], ◌∷◌, length, refl, sym, ap, ◌∙◌, subst, arith}
use Rattle.std.specs.List.{filter}
use Rattle.cam_shrink.specs.Cuts.{IsPart}

pub filter_short : (p : ℕ → Bool) (xs : List ℕ) → length (filter p xs) ≤ length xs
filter_short p [] = omega arith
filter_short p (x ∷ xs) =
    elim (p x) as (λ b. length (cond b (x ∷ filter p xs) (filter p xs)) ≤ length (x ∷ xs)) [
      | true ↦ omega (arith, filter_short p xs)
      | false ↦ omega (arith, filter_short p xs)
    ]

longer : (p : ℕ → Bool) (x : ℕ) (xs : List ℕ) → (length xs ≤ length (filter p xs) → filter p xs ≡ xs) → (b : Bool)
    → length (x ∷ xs) ≤ length (cond b (x ∷ filter p xs) (filter p xs)) → cond b (x ∷ filter p xs) (filter p xs) ≡ x ∷ xs
longer p x xs same true h = ap (λ rest. x ∷ rest) (same (omega (arith, h)))
longer p x xs same false h = absurd (omega (arith, h, filter_short p xs))

-- a filter that leaves as many leaves all
pub filter_same : (p : ℕ → Bool) (xs : List ℕ) → length xs ≤ length (filter p xs) → filter p xs ≡ xs
filter_same p [] h = refl
filter_same p (x ∷ xs) h = longer p x xs (filter_same p xs) (p x) h

pub filter_all : (xs : List ℕ) → filter (λ _. true) xs ≡ xs
filter_all [] = refl
filter_all (x ∷ xs) = ap (λ rest. x ∷ rest) (filter_all xs)

pub filter_both : (p q : ℕ → Bool) (xs : List ℕ) → filter q (filter p xs) ≡ filter (λ x. p x && q x) xs
filter_both p q [] = refl
filter_both p q (x ∷ xs) =
    elim (p x) as (λ b. filter q (cond b (x ∷ filter p xs) (filter p xs))
    ≡ cond (b && q x) (x ∷ filter (λ y. p y && q y) xs) (filter (λ y. p y && q y) xs)) [
      | true ↦ ap (λ rest. cond (q x) (x ∷ rest) rest) (filter_both p q xs)
      | false ↦ filter_both p q xs
    ]

pub part_whole : (xs : List ℕ) → IsPart xs xs
part_whole xs = (λ _. true, sym (filter_all xs))

pub part_part : (part whole all : List ℕ) → IsPart part whole → IsPart whole all → IsPart part all
part_part part whole all h k =
    (λ x. k.0 x && h.0 x, h.1 ∙ ap (filter h.0) k.1 ∙ filter_both k.0 h.0 all)

-- the same, where the whole is known by another name
pub part_of : (part whole all named : List ℕ) → all ≡ named → IsPart part whole → IsPart whole all → IsPart part named
part_of part whole all named e h k =
    let P : List ℕ → Type 0 = λ xs. IsPart part xs in
    subst P e (part_part part whole all h k)
