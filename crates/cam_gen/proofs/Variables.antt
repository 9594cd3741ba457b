-- The variables of a script that is made: A1, A2 and so on, each the word of its place.
use Rattle.std.proofs.Common.{◌≡◌, ℕ, zero, suc, ◌+◌, ◌-◌, ◌<◌, ◌≤◌, Bool, true, false, List, [], ◌∷◌, ◌++◌, Some, None, codes, decimal, refl, ap, ◌∙◌, arith, inl, inr}
use Rattle.std.specs.Prelude.{bytes_eq}
use Rattle.std.specs.Cmp.Lexicographic.{bytes_decides}
use Rattle.std.proofs.lemmas.Bool.{cases_lt}
use Rattle.std.proofs.lemmas.Fmt.{decimal_injective}
use Rattle.std.proofs.lemmas.List.{append_cancel_left}
use Rattle.cam_words.specs.Words.{place_from}
use Rattle.cam_gen.specs.Script.{variable}

-- so many of them, from this place on
abbrev pub names_from : ℕ → ℕ → List (List ℕ)
names_from i zero = []
names_from i (suc k) = variable i ∷ names_from (i + 1) k

-- two places have two words
one_place : (i x : ℕ) → i < 512 → x < 512 → variable i ≡ variable x → i ≡ x
one_place i x small other same =
    omega (
      arith,
      decimal_injective (i + 1) (x + 1) (omega (arith, small)) (omega (arith, other))
          (append_cancel_left (codes "A") (decimal (i + 1)) (decimal (x + 1)) same),
    )

is_other : (a b : List ℕ) → (a ≡ b → ⊥) → bytes_eq a b ≡ false
is_other a b other = by (bytes_eq a b) refl
  where
    by : (t : Bool) → bytes_eq a b ≡ t → t ≡ false
    by false e = refl
    by true e = absurd (other ((bytes_decides a b).0 e))

pub place_found : (p i k x : ℕ) → i ≤ x → x < i + k → x < 512
    → place_from p (names_from i k) (variable x) ≡ Some (p + (x - i))
place_found p i zero x low high small = absurd (omega (arith, low, high))
place_found p i (suc k) x low high small =
    elim (cases_lt i x) [
      | inl before ↦ rw (is_other (variable i) (variable x)
          (λ same. omega (arith, before, one_place i x (omega (arith, low, small)) small same)))
          (place_found (p + 1) (i + 1) k x (omega (arith, before)) (omega (arith, high)) small
          ∙ ap (λ (n : ℕ). Some n) (omega (arith, before)))
      | inr not_before ↦
          let same : i ≡ x = omega (arith, low, not_before) in
          rw ((bytes_decides (variable i) (variable x)).1 (ap variable same))
          (ap (λ (n : ℕ). Some n) (omega (arith, same)))
    ]

pub place_new : (p i k x : ℕ) → i + k ≤ x → x < 512
    → place_from p (names_from i k) (variable x) ≡ None
place_new p i zero x past small = refl
place_new p i (suc k) x past small =
    rw
    (is_other (variable i) (variable x)
    (λ same. omega (arith, past, one_place i x (omega (arith, past, small)) small same)))
    (place_new (p + 1) (i + 1) k x (omega (arith, past)) small)

-- one more
pub names_more : (i k : ℕ) → names_from i k ++ variable (i + k) ∷ [] ≡ names_from i (suc k)
names_more i zero = ap (λ (n : ℕ). variable n ∷ []) (omega arith)
names_more i (suc k) = ap (λ (ns : List (List ℕ)). variable i ∷ ns)
    (ap (λ (n : ℕ). names_from (i + 1) k ++ variable n ∷ []) (omega arith) ∙ names_more (i + 1) k)
