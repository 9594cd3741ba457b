-- Which letter is handed out next, found node by node.
use Rattle.std.proofs.Common.{inl, inr, ◌≡◌, ℕ, suc, ◌+◌, ◌<◌, ◌≤◌, min, Bool, true, false, not, ◌&&◌, ◌||◌, eqb, nat_lt, List, [], ◌∷◌, length, Some, None, refl, sym, ap, ◌∙◌, arith}
use Rattle.std.specs.List.{AllByRecursion, position_or_len}
use Rattle.std.proofs.lemmas.Bool.{cases_Bool, lt-ltb, le-ltb, ltb-true, ltb-false, eqb-true, eqb-false}
use Rattle.cam_net.specs.Letters.{InFlightFields}
use Rattle.cam_net.specs.Waiting.{is_waiting, is_halted, may_go, next_from, waits_for, first_for, HasReceiver}
use Rattle.cam_net.proofs.Places.{at_passing, at_failing}

-- whether a letter waits for a node that is not halted, one of the first of so many
abbrev pub goes_within : List Bool → ℕ → InFlightFields → Bool
goes_within halted nodes letter = may_go halted letter && nat_lt letter.receiver (suc nodes)

module _ {X : Type 0} (p q r : X → Bool) where
  -- the first that passes one of two tests
  pub first_of_both : (xs : List X) → ((x : X) → r x ≡ p x || q x) → position_or_len r xs ≡ min (position_or_len p xs) (position_or_len q xs)
  first_of_both [] either = refl
  first_of_both (x ∷ xs) either =
      elim (cases_Bool (p x)) [
        | inl hit ↦ omega (arith, at_passing p x xs hit, at_passing r x xs (either x ∙ rw hit refl))
        | inr miss ↦
            elim (cases_Bool (q x)) [
              | inl hit ↦ omega (arith, at_failing p x xs miss, at_passing q x xs hit, at_passing r x xs (either x ∙ rw (miss, hit) refl))
              | inr none ↦
                  omega (arith, at_failing p x xs miss, at_failing q x xs none, at_failing r x xs (either x ∙ rw (miss, none) refl), first_of_both xs either)
            ]
      ]

-- two tests that agree on each value of a list have one first
pub first_agrees : {X : Type 0} (P : X → Type 0) (p q : X → Bool) → ((x : X) → P x → p x ≡ q x) → (xs : List X) → AllByRecursion P xs → position_or_len p xs ≡ position_or_len q xs
first_agrees P p q same [] all = refl
first_agrees P p q same (x ∷ xs) all = rw (same x all.0, first_agrees P p q same xs all.1) refl

-- at first no node is counted, in the end each
pub none_within : (halted : List Bool) (letters : List InFlightFields) → AllByRecursion HasReceiver letters → length letters ≡ position_or_len (goes_within halted 0) letters
none_within halted [] all = refl
none_within halted (letter ∷ letters) all =
    omega (arith, at_failing (goes_within halted 0) letter letters (rw (le-ltb letter.receiver 1 all.0.0) (no (may_go halted letter))), none_within halted letters all.1)
  where
    no : (b : Bool) → b && false ≡ false
    no true = refl
    no false = refl

pub all_within : (halted : List Bool) (letters : List InFlightFields) → AllByRecursion HasReceiver letters → position_or_len (goes_within halted 8) letters ≡ position_or_len (may_go halted) letters
all_within halted letters all = first_agrees HasReceiver (goes_within halted 8) (may_go halted) one letters all
  where
    yes : (b : Bool) → b && true ≡ b
    yes true = refl
    yes false = refl

    one : (letter : InFlightFields) → HasReceiver letter → goes_within halted 8 letter ≡ may_go halted letter
    one letter h = rw (lt-ltb letter.receiver 9 (omega (arith, h.1))) (yes (may_go halted letter))

-- what the first place says of the next number
pub next_is : (halted : List Bool) (number : ℕ) (letters : List InFlightFields) → position_or_len (may_go halted) letters < length letters
    → next_from halted number letters ≡ Some (number + position_or_len (may_go halted) letters)
next_is halted number [] within = absurd (omega (arith, within))
next_is halted number (letter ∷ letters) within =
    elim (cases_Bool (may_go halted letter)) [
      | inl hit ↦ rw hit (ap Some (omega arith))
      | inr miss ↦
          rw miss (next_is halted (number + 1) letters (omega (arith, at_failing (may_go halted) letter letters miss, within)) ∙ ap Some (omega arith))
    ]

pub no_next : (halted : List Bool) (number : ℕ) (letters : List InFlightFields) → length letters ≤ position_or_len (may_go halted) letters → next_from halted number letters ≡ None
no_next halted number [] low = refl
no_next halted number (letter ∷ letters) low =
    elim (cases_Bool (may_go halted letter)) [
      | inl hit ↦ absurd (omega (arith, at_passing (may_go halted) letter letters hit, low))
      | inr miss ↦ rw miss (no_next halted (number + 1) letters (omega (arith, at_failing (may_go halted) letter letters miss, low)))
    ]

-- One node more: where it is halted the first stays, else the first of its letters counts too.
module _ (halted : List Bool) (node : ℕ) where
  only : (b w : Bool) → b ≡ false → ((w && not b) && true) ≡ ((w && not b) && false) || (true && w)
  only b true e = rw e refl
  only b false e = refl

  skipped : (b w : Bool) → b ≡ true → ((w && not b) && true) ≡ ((w && not b) && false)
  skipped b true e = rw e refl
  skipped b false e = refl

  as_before : (b w : Bool) → b ≡ b || (false && w)
  as_before true w = refl
  as_before false w = refl

  same_below : (r : ℕ) → (r ≡ suc node → ⊥) → nat_lt r (suc (node + 1)) ≡ nat_lt r (suc node)
  same_below r other =
      elim (cases_Bool (nat_lt r (suc node))) [
        | inl low ↦ lt-ltb r (suc (node + 1)) (omega (arith, ltb-true r (suc node) low)) ∙ sym low
        | inr high ↦ le-ltb r (suc (node + 1)) (omega (arith, ltb-false r (suc node) high, other)) ∙ sym high
      ]

  one_more : is_halted halted (suc node) ≡ false → (x : InFlightFields) → goes_within halted (node + 1) x ≡ goes_within halted node x || waits_for (suc node) x
  one_more up x =
      elim (cases_Bool (eqb x.receiver (suc node))) [
        | inl its ↦
            let here : x.receiver ≡ suc node = eqb-true x.receiver (suc node) its in
            rw (its, lt-ltb x.receiver (suc (node + 1)) (omega (arith, here)), le-ltb x.receiver (suc node) (omega (arith, here)))
            (only (is_halted halted x.receiver) (is_waiting x) (ap (is_halted halted) here ∙ up))
        | inr other ↦
            rw (other, same_below x.receiver (eqb-false x.receiver (suc node) other)) (as_before (goes_within halted node x) (is_waiting x))
      ]

  none_more : is_halted halted (suc node) ≡ true → (x : InFlightFields) → goes_within halted (node + 1) x ≡ goes_within halted node x
  none_more down x =
      elim (cases_Bool (eqb x.receiver (suc node))) [
        | inl its ↦
            let here : x.receiver ≡ suc node = eqb-true x.receiver (suc node) its in
            rw (lt-ltb x.receiver (suc (node + 1)) (omega (arith, here)), le-ltb x.receiver (suc node) (omega (arith, here)))
            (skipped (is_halted halted x.receiver) (is_waiting x) (ap (is_halted halted) here ∙ down))
        | inr other ↦ rw (same_below x.receiver (eqb-false x.receiver (suc node) other)) refl
      ]

  pub first_with : is_halted halted (suc node) ≡ false → (letters : List InFlightFields)
      → position_or_len (goes_within halted (node + 1)) letters ≡ min (position_or_len (goes_within halted node) letters) (first_for (suc node) letters)
  first_with up letters = first_of_both (goes_within halted node) (waits_for (suc node)) (goes_within halted (node + 1)) letters (one_more up)

  pub first_without : is_halted halted (suc node) ≡ true → (letters : List InFlightFields)
      → position_or_len (goes_within halted (node + 1)) letters ≡ position_or_len (goes_within halted node) letters
  first_without down [] = refl
  first_without down (x ∷ letters) = rw (none_more down x, first_without down letters) refl
