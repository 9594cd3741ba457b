-- The numbers that a script of a seed has, as words: each below its bound is plain, and is read as
-- itself. All by computing.
use Rattle.std.proofs.Common.{◌≡◌, inl, inr, ℕ, zero, suc, ◌+◌, ◌==◌, ◌<◌, ◌≤◌, Bool, true, false, ◌&&◌, eqb-true, nat_le, leb-true, List, length, Option, Some, None, decimal, refl, ap, ◌∙◌, arith}
use Rattle.std.specs.Prelude.{ℤ, pos, negsuc}
use Rattle.std.specs.Fmt.{digits}
use Rattle.std.proofs.lemmas.Bool.{cases_lt}
use Rattle.cam_words.specs.Numbers.{is_name, number_of, value_of}
use Rattle.cam_gen.specs.Script.{variable}
use Rattle.cam_gen.proofs.PlainWords.{IsPlain, all_from}

-- a test passes below a bound
abbrev every : (ℕ → Bool) → ℕ → Bool
every test zero = true
every test (suc n) = test n && every test n

pub both : (a b : Bool) → (a && b) ≡ true → (a ≡ true) × (b ≡ true)
both true true e = (refl, refl)
both true false e = absurd cc
both false b e = absurd cc

each : (test : ℕ → Bool) (bound n : ℕ) → every test bound ≡ true → n < bound → test n ≡ true
each test zero n e below = absurd (omega (arith, below))
each test (suc bound) n e below =
    let (here, before) = both (test bound) (every test bound) e in
    elim (cases_lt n bound) [
      | inl less ↦ each test bound n before less
      | inr not_less ↦ ap test (let same : n ≡ bound = omega (arith, below, not_less) in same)
          ∙ here
    ]

-- a word is plain and has so many bytes at most
abbrev is_short : ℕ → List ℕ → Bool
is_short most w = all_from 33 w && (nat_le 1 (length w) && nat_le (length w) most)

pub record IsShort (most : ℕ) (w : List ℕ) : Type 0 where
  pub plain : IsPlain w
  pub few : length w ≤ most

short_of : (most : ℕ) (w : List ℕ) → is_short most w ≡ true → IsShort most w
short_of most w e =
    let (shown, others) = both (all_from 33 w) (nat_le 1 (length w) && nat_le (length w) most) e in
    let (some, few) = both (nat_le 1 (length w)) (nat_le (length w) most) others in
    record {
      plain = record { shown = shown; some = leb-true 1 (length w) some };
      few = leb-true (length w) most few;
    }

-- variables
variable_short : every (λ x. is_short 4 (variable x)) 512 ≡ true
unfolding digits
variable_short = refl

variable_named : every (λ x. is_name (variable x)) 512 ≡ true
unfolding digits
variable_named = refl

pub short_variable : (x : ℕ) → x < 512 → IsShort 4 (variable x)
short_variable x below = short_of 4 (variable x)
    (each (λ x. is_short 4 (variable x)) 512 x variable_short below)

pub named_variable : (x : ℕ) → x < 512 → is_name (variable x) ≡ true
named_variable x below = each (λ x. is_name (variable x)) 512 x variable_named below

-- values
abbrev is_value : Option ℤ → ℕ → Bool
is_value (Some (pos m)) n = m == n
is_value (Some (negsuc m)) n = false
is_value None n = false

value_back : (read : Option ℤ) (n : ℕ) → is_value read n ≡ true → read ≡ Some (pos n)
value_back (Some (pos m)) n e = ap (λ (k : ℕ). Some (pos k)) (eqb-true m n e)
value_back (Some (negsuc m)) n e = absurd cc
value_back None n e = absurd cc

values_short : every (λ n. is_short 2 (decimal n)) 100 ≡ true
unfolding digits
values_short = refl

values_read : every (λ n. is_value (value_of (decimal n)) n) 100 ≡ true
unfolding digits
values_read = refl

pub short_value : (n : ℕ) → n < 100 → IsShort 2 (decimal n)
short_value n below = short_of 2 (decimal n)
    (each (λ n. is_short 2 (decimal n)) 100 n values_short below)

pub value_is : (n : ℕ) → n < 100 → value_of (decimal n) ≡ Some (pos n)
value_is n below = value_back (value_of (decimal n)) n
    (each (λ n. is_value (value_of (decimal n)) n) 100 n values_read below)

-- nodes
abbrev is_number : Option ℕ → ℕ → Bool
is_number (Some m) n = m == n
is_number None n = false

number_back : (read : Option ℕ) (n : ℕ) → is_number read n ≡ true → read ≡ Some n
number_back (Some m) n e = ap (λ (k : ℕ). Some k) (eqb-true m n e)
number_back None n e = absurd cc

nodes_short : every (λ n. is_short 1 (decimal (n + 1))) 3 ≡ true
unfolding digits
nodes_short = refl

nodes_read : every (λ n. is_number (number_of 8 (decimal (n + 1))) (n + 1)) 3 ≡ true
unfolding digits
nodes_read = refl

pub short_node : (n : ℕ) → n < 3 → IsShort 1 (decimal (n + 1))
short_node n below = short_of 1 (decimal (n + 1))
    (each (λ n. is_short 1 (decimal (n + 1))) 3 n nodes_short below)

pub node_is : (n : ℕ) → n < 3 → number_of 8 (decimal (n + 1)) ≡ Some (n + 1)
node_is n below = number_back (number_of 8 (decimal (n + 1))) (n + 1)
    (each (λ n. is_number (number_of 8 (decimal (n + 1))) (n + 1)) 3 n nodes_read below)
