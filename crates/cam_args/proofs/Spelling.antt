-- A number in decimal is plain and is read as it, and a plain word that is read as a number is its
-- decimal.
use Rattle.std.proofs.Common.{◌≡◌, ℕ, zero, suc, ◌<◌, ◌≤◌, ◌^◌, ◌==◌, nat_lt, if◌then◌else◌, Bool, true, false, List, [], ◌∷◌, length, get_or, Result, Ok, Err, refl, sym, ap, ◌∙◌, subst, arith, decimal, ne_eqb, eq-eqb, le-leb}
use Rattle.std.specs.Result.{OkIff, is_ok}
use Rattle.std.proofs.lemmas.Bool.{eqb-true, leb-true}
use mathlib.Core.Bool.{true≢false}
use Rattle.std.proofs.lemmas.Fmt.{decimal_digit, first_decimal, decimal-digits_value, parse-decimal}
use Rattle.std.proofs.lemmas.Str.Parse.{parse_plain, numerals_by_value, tells_digits}
use Rattle.std.specs.Str.Parse.{ParsesUnsigned, AllDigits}
use Rattle.cam_args.specs.Numbers.{is_plain}

above : (bs : List ℕ) → 48 < get_or bs 0 0 → is_plain bs ≡ true
above [] h = absurd (omega (arith, h))
above (b ∷ bs) h = rw (ne_eqb b 48 (λ (e : b ≡ 48). omega (arith, e, h)), le-leb 49 b h) refl

pub decimal_plain : (n : ℕ) → n < 2 ^ 64 → is_plain (decimal n) ≡ true
decimal_plain zero small = ap is_plain (decimal_digit 0 (omega arith))
decimal_plain (suc n) small = above (decimal (suc n)) (first_decimal (suc n) (omega arith) small)

pub decimal_read : {E : Type 0} (bs : List ℕ) (n : ℕ) (r : Result ℕ E) → n < 2 ^ 64 → bs ≡ decimal n
    → ParsesUnsigned 64 10 bs r → r ≡ Ok n
decimal_read bs n r small is read = parse-decimal 64 n bs r small small is read

pub no_plus : (bs : List ℕ) → is_plain bs ≡ true → 48 ≤ get_or bs 0 0
no_plus [] e = absurd (true≢false (sym e))
no_plus (b ∷ bs) e = first b bs (b == 48) refl e
  where
    first : (b : ℕ) (bs : List ℕ) (t : Bool) → (b == 48) ≡ t
        → (if b == 48 then length bs == 0 else nat_lt 48 b) ≡ true → 48 ≤ b
    first b bs true is e = omega (arith, eqb-true b 48 is)
    first b bs false is e = omega (
      arith,
      leb-true 49 b
          (subst (λ (t : Bool). (if t then length bs == 0 else nat_lt 48 b) ≡ true) is e),
    )

no_zero : (bs : List ℕ) → is_plain bs ≡ true → get_or bs 0 0 ≡ 48 → length bs ≡ 1
no_zero [] e zero_first = absurd (omega (arith, zero_first))
no_zero (b ∷ bs) e zero_first = ap suc
    (eqb-true (length bs) 0
    (subst (λ (t : Bool). (if t then length bs == 0 else nat_lt 48 b) ≡ true)
    (eq-eqb b 48 zero_first) e))

-- where a result is this number, its clause says so of the number
at_ok : {E : Type 0} (P : Type 0) (v n : ℕ) (r : Result ℕ E) → r ≡ Ok n → OkIff r P v → P × (n ≡ v)
at_ok {E} P v n r is h = subst (λ (x : Result ℕ E). OkIff x P v) is h

pub plain_spelt : {E : Type 0} (bs : List ℕ) (n : ℕ) (r : Result ℕ E) → is_plain bs ≡ true
    → r ≡ Ok n → ParsesUnsigned 64 10 bs r → bs ≡ decimal n
plain_spelt bs n r plain is read =
    let own = numerals_by_value (AllDigits 10) tells_digits in
    let told = at_ok _ _ n r is (parse_plain own 64 bs r read
    (λ (e : get_or bs 0 0 ≡ 43). omega (arith, e, no_plus bs plain))) in
    sym (decimal-digits_value own bs told.0.0 told.0.1 (no_zero bs plain) told.0.2)
    ∙ ap decimal (sym told.1)

number_of : {E : Type 0} → Result ℕ E → ℕ
number_of (Ok n) = n
number_of (Err e) = 0

pub same_number : {E : Type 0} (r : Result ℕ E) (m n : ℕ) → r ≡ Ok m → r ≡ Ok n → m ≡ n
unfolding number_of
same_number r m n is also = sym (ap number_of is) ∙ ap number_of also

pub no_error : {T E : Type 0} (r : Result T E) (e : E) (n : T) → r ≡ Err e → r ≡ Ok n → ⊥
no_error r e n is also = true≢false (sym (ap is_ok also) ∙ ap is_ok is)
