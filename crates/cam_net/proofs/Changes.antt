-- What the letters are after one is lost or delivered.
use Rattle.std.proofs.Common.{◌≡◌, ℕ, zero, suc, ◌-◌, ◌<◌, ◌≤◌, Bool, true, false, not, ◌&&◌, ◌||◌, eqb, if◌then◌else◌, true≢false, List, [], ◌∷◌, length, get_or, set, refl, sym, ap, ◌∙◌, arith}
use Rattle.std.specs.Prelude.{slice_get, Some, None}
use Rattle.std.specs.Option.{is_some}
use Rattle.std.proofs.lemmas.Bool.{ne_eqb}
use Rattle.cam_net.specs.Letters.{InFlightFields, unless_lost, letter_of, has_letter, changed_at, changed, as_lost, as_delivered}
use Rattle.cam_net.specs.Waiting.{waits_for}

set_at : (f : InFlightFields → InFlightFields) (xs : List InFlightFields) (place : ℕ) (old new : InFlightFields) → place < length xs → old ≡ get_or xs place old → new ≡ f old
    → set xs place new ≡ changed_at f xs place
set_at f [] place old new within is changes = refl
set_at f (x ∷ xs) zero old new within is changes = ap (λ (y : InFlightFields). y ∷ xs) (changes ∙ ap f is)
set_at f (x ∷ xs) (suc place) old new within is changes = ap (λ ys. x ∷ ys) (set_at f xs place old new (omega (arith, within)) is changes)

-- a number above 0 is one more than a place
before : (place : ℕ) → suc place - 1 ≡ place
before place = omega arith

not_zero : (place : ℕ) → eqb (suc place) 0 ≡ false
not_zero place = ne_eqb (suc place) 0 (λ e. omega (arith, e))

letter_at : (xs : List InFlightFields) (place : ℕ) → letter_of xs (suc place) ≡ unless_lost (slice_get xs place)
letter_at xs place = rw (not_zero place, before place) refl

changed_is : (f : InFlightFields → InFlightFields) (xs : List InFlightFields) (place : ℕ) → changed f xs (suc place) ≡ changed_at f xs place
changed_is f xs place = rw (not_zero place, before place) refl

-- a letter of the list is changed
pub set_is_changed : (f : InFlightFields → InFlightFields) (xs : List InFlightFields) (number : ℕ) (old new : InFlightFields) → 1 ≤ number → number ≤ length xs
    → old ≡ get_or xs (number - 1) old → new ≡ f old → set xs (number - 1) new ≡ changed f xs number
set_is_changed f xs zero old new low high is changes = absurd (omega (arith, low))
set_is_changed f xs (suc place) old new low high is changes =
    ap (λ n. set xs n new) (before place)
    ∙ set_at f xs place old new (omega (arith, high)) (is ∙ ap (λ n. get_or xs n old) (before place)) changes ∙ sym (changed_is f xs place)

-- no letter is put under a number that is 0 or above the last
changed_past : (f : InFlightFields → InFlightFields) (xs : List InFlightFields) (place : ℕ) → length xs ≤ place → xs ≡ changed_at f xs place
changed_past f [] place past = refl
changed_past f (x ∷ xs) zero past = absurd (omega (arith, past))
changed_past f (x ∷ xs) (suc place) past = ap (λ ys. x ∷ ys) (changed_past f xs place (omega (arith, past)))

pub none_changed : (f : InFlightFields → InFlightFields) (xs : List InFlightFields) (number : ℕ) → length xs < number → xs ≡ changed f xs number
none_changed f xs zero past = absurd (omega (arith, past))
none_changed f xs (suc place) past = changed_past f xs place (omega (arith, past)) ∙ sym (changed_is f xs place)

pub zero_changed : (f : InFlightFields → InFlightFields) (xs : List InFlightFields) (number : ℕ) → number < 1 → xs ≡ changed f xs number
zero_changed f xs zero low = refl
zero_changed f xs (suc place) low = absurd (omega (arith, low))

-- a letter that can be lost was put, and one that cannot is lost
has_place : (xs : List InFlightFields) (place : ℕ) → is_some (unless_lost (slice_get xs place)) ≡ true → place < length xs
has_place [] place has = absurd (true≢false (sym has))
has_place (x ∷ xs) zero has = omega arith
has_place (x ∷ xs) (suc place) has = omega (arith, has_place xs place has)

pub has_within : (xs : List InFlightFields) (number : ℕ) → has_letter xs number ≡ true → (1 ≤ number) × (number ≤ length xs)
has_within xs zero has = absurd (true≢false (sym has))
has_within xs (suc place) has = (omega arith, omega (arith, has_place xs place (sym (ap is_some (letter_at xs place)) ∙ has)))

lost_one : (x : InFlightFields) (rest : List InFlightFields) (b : Bool) → x.lost ≡ b → is_some (if b then None else Some x) ≡ false → x ∷ rest ≡ as_lost x ∷ rest
lost_one x rest true is none = λ i. record { receiver = x.receiver; bytes = x.bytes; lost = is i; delivered = x.delivered } ∷ rest
lost_one x rest false is none = absurd (true≢false none)

lost_place : (xs : List InFlightFields) (place : ℕ) → is_some (unless_lost (slice_get xs place)) ≡ false → xs ≡ changed_at as_lost xs place
lost_place [] place none = refl
lost_place (x ∷ xs) zero none = lost_one x xs x.lost refl none
lost_place (x ∷ xs) (suc place) none = ap (λ ys. x ∷ ys) (lost_place xs place none)

pub lost_before : (xs : List InFlightFields) (number : ℕ) → has_letter xs number ≡ false → xs ≡ changed as_lost xs number
lost_before xs zero none = refl
lost_before xs (suc place) none = lost_place xs place (sym (ap is_some (letter_at xs place)) ∙ none) ∙ sym (changed_is as_lost xs place)

-- what is lost or delivered waits for no node
module _ (node : ℕ) (letter : InFlightFields) where
  waits_not : (b : Bool) → b && false ≡ false
  waits_not true = refl
  waits_not false = refl

  pub lost_waits_not : waits_for node (as_lost letter) ≡ false
  lost_waits_not = waits_not (eqb letter.receiver node)

  delivered_or_lost : (b : Bool) → not (b || true) ≡ false
  delivered_or_lost true = refl
  delivered_or_lost false = refl

  pub delivered_waits_not : waits_for node (as_delivered letter) ≡ false
  delivered_waits_not = rw (delivered_or_lost letter.lost) (waits_not (eqb letter.receiver node))
