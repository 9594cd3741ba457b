-- How often families come up: at most as often as each has lines, and in all as often as there are places.
use Rattle.std.proofs.Common.{◌≡◌, ◌⊎◌, ◌<◌, ◌≤◌, ◌+◌, ◌==◌, Bool, true, false, ℕ, zero, suc, List, [], ◌∷◌, ◌++◌, length, get_or, if◌then◌else◌, refl, sym, subst, inl, inr, arith}
use Rattle.std.proofs.lemmas.List.{get_or_past}
use Rattle.std.proofs.lemmas.Bool.{cases_eq, cases_lt, eq-eqb, ne_eqb, cond-true, cond-false}
use Rattle.cam_orders.specs.Orders.{times, IsOrder}

-- one if the two are the same
abbrev pub one : ℕ → ℕ → ℕ
one other family = if other == family then 1 else 0

pub times_push : (family other : ℕ) (order : List ℕ) → times family (order ++ other ∷ []) ≡ times family order + one other family
times_push family other [] = omega arith
times_push family other (first ∷ order) = omega (arith, times_push family other order)

pub times_append : (family : ℕ) (xs ys : List ℕ) → times family (xs ++ ys) ≡ times family xs + times family ys
times_append family [] ys = omega arith
times_append family (x ∷ xs) ys = omega (arith, times_append family xs ys)

chosen_true : (b : Bool) (m n : ℕ) → b ≡ true → (if b then m else n) ≡ m
chosen_true b m n e = cond-true b m n e

chosen_false : (b : Bool) (m n : ℕ) → b ≡ false → (if b then m else n) ≡ n
chosen_false b m n e = cond-false b m n e

pub one_same : (other family : ℕ) → other ≡ family → one other family ≡ 1
one_same other family e = chosen_true (other == family) 1 0 (eq-eqb other family e)

pub one_other : (other family : ℕ) → (other ≡ family → ⊥) → one other family ≡ 0
one_other other family n = chosen_false (other == family) 1 0 (ne_eqb other family n)

-- each family comes up at most as often as it has lines
abbrev pub Fits : List ℕ → List ℕ → Type 0
Fits counts order = (family : ℕ) → times family order ≤ get_or counts family 0

-- how often the families below a number come up
abbrev pub tally : ℕ → List ℕ → ℕ
tally zero order = 0
tally (suc n) order = tally n order + times n order

-- how many lines the families below a number have
abbrev pub lines_below : ℕ → List ℕ → ℕ
lines_below zero counts = 0
lines_below (suc n) counts = lines_below n counts + get_or counts n 0

tally_above : (n first : ℕ) (order : List ℕ) → n ≤ first → tally n (first ∷ order) ≡ tally n order
tally_above zero first order h = refl
tally_above (suc n) first order h =
    omega (arith, tally_above n first order (omega (arith, h)), one_other first n (λ e. omega (arith, e, h)))

by_last : (n first : ℕ) (order : List ℕ) → (first ≡ n) ⊎ (first ≡ n → ⊥)
    → (first < n → tally n (first ∷ order) ≡ tally n order + 1) → first < suc n
    → tally (suc n) (first ∷ order) ≡ tally (suc n) order + 1
by_last n first order (inl e) again h =
    omega (arith, tally_above n first order (omega (arith, e)), one_same first n e)
by_last n first order (inr d) again h =
    let lt : first < n = grind (arith, d, h) in
    omega (arith, again lt, one_other first n d)

tally_more : (n first : ℕ) (order : List ℕ) → first < n → tally n (first ∷ order) ≡ tally n order + 1
tally_more zero first order h = absurd (omega (arith, h))
tally_more (suc n) first order h = by_last n first order (cases_eq first n) (tally_more n first order) h

tally_none : (n : ℕ) → tally n [] ≡ 0
tally_none zero = refl
tally_none (suc n) = omega (arith, tally_none n)

-- a family that comes up has lines
pub is_family : (counts : List ℕ) (family : ℕ) → 0 < get_or counts family 0 → family < length counts
is_family counts family h = elim (cases_lt family (length counts)) [
  | inl lt ↦ lt
  | inr le ↦ absurd (omega (arith, h, get_or_past counts family 0 le))
]

-- the families come up as often as there are places
pub tally_is : (counts order : List ℕ) → Fits counts order → tally (length counts) order ≡ length order
tally_is counts [] fits = tally_none (length counts)
tally_is counts (first ∷ order) fits =
    let here : 0 < get_or counts first 0 = omega (arith, fits first, one_same first first refl) in
    omega (
      arith,
      tally_more (length counts) first order (is_family counts first here),
      tally_is counts order (λ family. omega (arith, fits family)),
    )

-- Orders are what fits in as many places as there are lines.
tally_same : (counts order : List ℕ) (n : ℕ) → IsOrder counts order → tally n order ≡ lines_below n counts
tally_same counts order zero h = refl
tally_same counts order (suc n) h = omega (arith, tally_same counts order n h, h n)

tally_within : (counts order : List ℕ) (n : ℕ) → Fits counts order → tally n order ≤ lines_below n counts
tally_within counts order zero fits = omega arith
tally_within counts order (suc n) fits = omega (arith, tally_within counts order n fits, fits n)

tally_full : (counts order : List ℕ) (n : ℕ) → Fits counts order → tally n order ≡ lines_below n counts
    → (family : ℕ) → family < n → times family order ≡ get_or counts family 0
tally_full counts order zero fits e family h = absurd (omega (arith, h))
tally_full counts order (suc n) fits e family h =
    let below : tally n order ≡ lines_below n counts = omega (arith, e, tally_within counts order n fits, fits n) in
    elim (cases_eq family n) [
      | inl same ↦ (let P : ℕ → Type 0 = λ f. times f order ≡ get_or counts f 0 in
          subst P (sym same) (omega (arith, e, below)))
      | inr other ↦ tally_full counts order n fits below family (grind (arith, other, h))
    ]

pub order_fits : (counts order : List ℕ) → IsOrder counts order → Fits counts order
order_fits counts order h family = omega (arith, h family)

pub order_is_long : (counts order : List ℕ) → IsOrder counts order → length order ≡ lines_below (length counts) counts
order_is_long counts order h =
    omega (arith, tally_is counts order (order_fits counts order h), tally_same counts order (length counts) h)

pub long_is_order : (counts order : List ℕ) → Fits counts order → length order ≡ lines_below (length counts) counts → IsOrder counts order
long_is_order counts order fits e family = elim (cases_lt family (length counts)) [
  | inl lt ↦ tally_full counts order (length counts) fits (omega (arith, e, tally_is counts order fits)) family lt
  | inr le ↦ omega (arith, fits family, get_or_past counts family 0 le)
]
