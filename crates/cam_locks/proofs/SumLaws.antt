-- What adds come to: sums wrap at 64 bits, and what was added is taken back by a difference.
use Rattle.std.proofs.Common.{◌≡◌, ℕ, ℤ, ◌+◌, ◌-◌, ◌%◌, ◌^◌, ◌<◌, pos, List, [], ◌∷◌, ◌++◌, refl, sym, ap, ◌∙◌, arith}
use Rattle.std.specs.Prelude.{FitsSigned}
use Rattle.std.specs.Int.{w64, int_wrapping_add, int_wrapping_sub, cast_unsigned, cast_signed}
use Rattle.std.proofs.lemmas.Int.{of_z-to_z, to_z-of_z}
use Rattle.std.proofs.lemmas.Nat.{pow_pos}
use Rattle.std.proofs.Math.Nat.{mod-add-mod, add-mod_right, mod-lt, mod-eq_of_lt}
use mir.Facts.{Fits-of_z, sfits_to_z}
use Rattle.cam_type.specs.declared.State.TheVariants.{Counter}
use Rattle.cam_type.specs.declared.Op.{Op}
use Rattle.cam_type.specs.declared.Op.TheVariants as ops
use Rattle.cam_type.specs.Table.{state_after}
use Rattle.cam_type.proofs.Sums.{sums_join}
use Rattle.cam_locks.specs.declared.LiveOp.{LiveOp}
use Rattle.cam_locks.specs.Moss.{replay}
use Rattle.cam_locks.specs.Sums.{added_of, sum_of}

-- the bits of a number
abbrev pub bits_of : ℤ → ℕ
bits_of v = cast_unsigned w64 v

bits_of_sum : (a b : ℤ) → bits_of (int_wrapping_add w64 a b) ≡ (bits_of a + bits_of b) % 2 ^ 64
bits_of_sum a b = of_z-to_z w64 ((bits_of a + bits_of b) % 2 ^ 64) (mod-lt (bits_of a + bits_of b) (pow_pos 64))

-- A number that has 64 bits is the number that is read from its bits.
pub bits_again : (v : ℤ) → FitsSigned w64 v → cast_signed w64 (bits_of v % 2 ^ 64) ≡ v
bits_again v fits = ap (cast_signed w64) (mod-eq_of_lt (Fits-of_z fits).fits) ∙ to_z-of_z w64 v fits

-- A sum does not go by the order of what is added.
pub sum_swaps : (a b : ℤ) → int_wrapping_add w64 a b ≡ int_wrapping_add w64 b a
sum_swaps a b = ap (λ (n : ℕ). cast_signed w64 (n % 2 ^ 64)) (omega arith)

-- what is a sum is its bits read again
sum_again : (a b : ℤ) → cast_signed w64 (bits_of (int_wrapping_add w64 a b) % 2 ^ 64) ≡ int_wrapping_add w64 a b
sum_again a b =
    ap (λ (n : ℕ). cast_signed w64 (n % 2 ^ 64)) (bits_of_sum a b)
    ∙ ap (cast_signed w64) (mod-eq_of_lt (mod-lt (bits_of a + bits_of b) (pow_pos 64)))

sum_bits : (os : List LiveOp) → cast_signed w64 (bits_of (sum_of os) % 2 ^ 64) ≡ sum_of os
sum_bits [] = refl
sum_bits (o ∷ os) = sum_again (added_of o.op) (sum_of os)

-- What nothing is added to is the same sum.
pub sum_of_again : (os : List LiveOp) → int_wrapping_add w64 (pos 0) (sum_of os) ≡ sum_of os
sum_of_again os = ap (λ (n : ℕ). cast_signed w64 (n % 2 ^ 64)) (none_more (bits_of (sum_of os))) ∙ sum_bits os
  where
    none_more : (n : ℕ) → bits_of (pos 0) + n ≡ n
    none_more n = omega arith

-- With one more operation at the end the sum is that with what it adds.
pub sum_more : (os : List LiveOp) (n : LiveOp) → sum_of (os ++ n ∷ []) ≡ int_wrapping_add w64 (sum_of os) (added_of n.op)
sum_more [] n = sum_swaps (added_of n.op) (pos 0)
sum_more (o ∷ os) n = ap (int_wrapping_add w64 (added_of o.op)) (sum_more os n) ∙ sums_join (added_of o.op) (sum_of os) (added_of n.op)

-- a sum has 64 bits
sum_fits : (a b : ℤ) → FitsSigned w64 (int_wrapping_add w64 a b)
sum_fits a b = sfits_to_z (record { fits = mod-lt (bits_of a + bits_of b) (pow_pos 64) })

-- A sum is the number that is read from its bits.
pub sum_reads : (os : List LiveOp) → cast_signed w64 (bits_of (sum_of os)) ≡ sum_of os
sum_reads [] = refl
sum_reads (o ∷ os) = to_z-of_z w64 (sum_of (o ∷ os)) (sum_fits (added_of o.op) (sum_of os))

-- What was added is taken back by a difference.
pub sum_back : (v : ℤ) (os : List LiveOp) → FitsSigned w64 v → int_wrapping_sub w64 (int_wrapping_add w64 v (sum_of os)) v ≡ sum_of os
sum_back v os fits =
    let small : bits_of v < 2 ^ 64 = (Fits-of_z fits).fits in
    ap (λ (n : ℕ). cast_signed w64 ((n + (2 ^ 64 - bits_of v)) % 2 ^ 64)) (bits_of_sum v (sum_of os))
    ∙ ap (cast_signed w64) (mod-add-mod (bits_of v + bits_of (sum_of os)) (2 ^ 64) (2 ^ 64 - bits_of v))
    ∙ ap (λ (n : ℕ). cast_signed w64 (n % 2 ^ 64)) (whole (bits_of v) (bits_of (sum_of os)) small)
    ∙ ap (cast_signed w64) (add-mod_right (bits_of (sum_of os)) (2 ^ 64))
    ∙ sum_bits os
  where
    whole : (a b : ℕ) → a < 2 ^ 64 → a + b + (2 ^ 64 - a) ≡ b + 2 ^ 64
    whole a b small = omega (arith, small)

-- What a counter holds after operations is its start with what they add.
pub counter_holds : (v : ℤ) (os : List LiveOp) → FitsSigned w64 v → replay (Counter v) os ≡ Counter (int_wrapping_add w64 v (sum_of os))
counter_holds v [] fits = ap (λ n. Counter n) (sym (bits_again v fits) ∙ ap (λ (n : ℕ). cast_signed w64 (n % 2 ^ 64)) (omega arith))
counter_holds v (o ∷ os) fits = by o.op (λ w f. counter_holds w os f)
  where
    Holds : Type 0
    Holds = (w : ℤ) → FitsSigned w64 w → replay (Counter w) os ≡ Counter (int_wrapping_add w64 w (sum_of os))

    same : Holds → replay (Counter v) os ≡ Counter (int_wrapping_add w64 v (int_wrapping_add w64 (pos 0) (sum_of os)))
    same later = later v fits ∙ ap (λ (s : ℤ). Counter (int_wrapping_add w64 v s)) (sym (sum_of_again os))

    by : (op : Op) → Holds → replay (state_after (Counter v) op) os ≡ Counter (int_wrapping_add w64 v (int_wrapping_add w64 (added_of op) (sum_of os)))
    by ops.Read later = same later
    by (ops.Write w) later = same later
    by (ops.Swap w) later = same later
    by ops.Size later = same later
    by (ops.Put w) later = same later
    by ops.Take later = same later
    by (ops.Add w) later = later (int_wrapping_add w64 v w) (sum_fits v w) ∙ ap (λ n. Counter n) (sym (sums_join v w (sum_of os)))
