-- The first that passes two tests, element after element.
use Rattle.std.proofs.Common.{◌≡◌, ◌<◌, ◌≤◌, ℕ, zero, suc, ◌+◌, Bool, true, false, ◌&&◌, if◌then◌else◌, List, [], ◌∷◌, length, drop, get_or, filter, Option, Some, None, refl, sym, ap, ◌∙◌, arith}
use Rattle.std.specs.Prelude.{find}

abbrev first_of : {X : Type 0} → (X → Bool) → (X → Bool) → List X → Option X
first_of p q xs = find q (filter p xs)

drop_at : {X : Type 0} (xs : List X) (i : ℕ) (x : X) → i < length xs → x ≡ get_or xs i x → drop i xs ≡ x ∷ drop (suc i) xs
drop_at [] i x h is = absurd (omega (arith, h))
drop_at (y ∷ xs) zero x h is = ap (λ z. z ∷ xs) (sym is)
drop_at (y ∷ xs) (suc i) x h is = drop_at xs i x (omega (arith, h)) is

one_more : {X : Type 0} (p q : X → Bool) (x : X) (xs : List X) (a b : Bool) → p x ≡ a → q x ≡ b → first_of p q (x ∷ xs) ≡ (if a && b then Some x else first_of p q xs)
one_more p q x xs true true is so = ap (λ t. find q (if t then x ∷ filter p xs else filter p xs)) is ∙ ap (λ t. if t then Some x else first_of p q xs) so
one_more p q x xs true false is so = ap (λ t. find q (if t then x ∷ filter p xs else filter p xs)) is ∙ ap (λ t. if t then Some x else first_of p q xs) so
one_more p q x xs false b is so = ap (λ t. find q (if t then x ∷ filter p xs else filter p xs)) is

pub found_at : {X : Type 0} (p q : X → Bool) (xs : List X) (i : ℕ) (x : X) → i < length xs → x ≡ get_or xs i x → first_of p q (drop i xs) ≡ first_of p q xs
    → (p x && q x) ≡ true → Some x ≡ first_of p q xs
found_at p q xs i x h is so passes =
    ap (λ t. if t then Some x else first_of p q (drop (suc i) xs)) (sym passes) ∙ sym (one_more p q x (drop (suc i) xs) (p x) (q x) refl refl) ∙ ap (first_of p q) (sym (drop_at xs i x h is)) ∙ so

pub passed_at : {X : Type 0} (p q : X → Bool) (xs : List X) (i : ℕ) (x : X) → i < length xs → x ≡ get_or xs i x → first_of p q (drop i xs) ≡ first_of p q xs
    → (p x && q x) ≡ false → first_of p q (drop (i + 1) xs) ≡ first_of p q xs
passed_at p q xs i x h is so fails =
    let next : i + 1 ≡ suc i = omega arith in
    ap (λ (k : ℕ). first_of p q (drop k xs)) next ∙ sym (ap (first_of p q) (drop_at xs i x h is) ∙ one_more p q x (drop (suc i) xs) (p x) (q x) refl refl ∙ ap (λ t. if t then Some x else first_of p q (drop (suc i) xs)) fails) ∙ so

none_past : {X : Type 0} (xs : List X) (i : ℕ) → length xs ≤ i → drop i xs ≡ []
none_past [] zero h = refl
none_past [] (suc i) h = refl
none_past (x ∷ xs) zero h = absurd (omega (arith, h))
none_past (x ∷ xs) (suc i) h = none_past xs i (omega (arith, h))

pub none_left : {X : Type 0} (p q : X → Bool) (xs : List X) (i : ℕ) → length xs ≤ i → first_of p q (drop i xs) ≡ first_of p q xs → None ≡ first_of p q xs
none_left p q xs i h so = ap (first_of p q) (sym (none_past xs i h)) ∙ so
