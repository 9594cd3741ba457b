-- The beginnings of so many places are the lists of that length in which no family comes up too often.
use Rattle.std.proofs.Common.{◌≡◌, ◌⊎◌, ◌<◌, ◌≤◌, ℕ, zero, suc, List, [], ◌∷◌, ◌++◌, length, get_or, refl, sym, ap, subst, inl, inr, arith}
use Rattle.std.proofs.lemmas.List.{length_push, nil_from_length}
use Rattle.std.proofs.lemmas.Bool.{cases_eq}
use Rattle.cam_orders.specs.Orders.{times, beginnings, longer, AllDiffer, AreAll, IsOneOf}
use Rattle.cam_orders.proofs.Members.{comes_from, differ_flat, goes_to}
use Rattle.cam_orders.proofs.Counting.{lines_below, long_is_order, one_other, one_same, order_fits, order_is_long, times_push, Fits}
use Rattle.cam_orders.proofs.Longer.{longer_apart, longer_differ, longer_has, longer_is}

-- what fits, in so many places
pub record FitsIn (counts : List ℕ) (n : ℕ) (order : List ℕ) : Type 0 where
  pub fits : Fits counts order
  pub long : length order ≡ n

nothing_fits : (counts : List ℕ) → FitsIn counts 0 []
nothing_fits counts = record { fits = λ family. omega arith; long = refl }

one_more : (counts begun : List ℕ) (family other : ℕ) → Fits counts begun → times family begun < get_or counts family 0
    → (family ≡ other) ⊎ (family ≡ other → ⊥) → times other (begun ++ family ∷ []) ≤ get_or counts other 0
one_more counts begun family other fits less (inl e) =
    let P : ℕ → Type 0 = λ f. times f (begun ++ family ∷ []) ≤ get_or counts f 0 in
    subst P e (omega (arith, times_push family family begun, one_same family family refl, less))
one_more counts begun family other fits less (inr d) =
    omega (arith, times_push other family begun, one_other family other d, fits other)

longer_fits : (counts begun : List ℕ) (n family : ℕ) (x : List ℕ) → x ≡ begun ++ family ∷ [] → FitsIn counts n begun
    → times family begun < get_or counts family 0 → FitsIn counts (suc n) x
longer_fits counts begun n family x e h less =
    let P : List ℕ → Type 0 = λ w. FitsIn counts (suc n) w in
    let all : Fits counts (begun ++ family ∷ []) =
    λ other. one_more counts begun family other h.fits less (cases_eq family other) in
    let long : length (begun ++ family ∷ []) ≡ suc n = omega (arith, length_push begun family, h.long) in
    subst P (sym e) (record { fits = all; long = long })

pub begun_fits : (counts : List ℕ) (n : ℕ) (x : List ℕ) → IsOneOf x (beginnings counts n) → FitsIn counts n x
begun_fits counts zero x (inl e) =
    let P : List ℕ → Type 0 = λ w. FitsIn counts 0 w in
    subst P (sym e) (nothing_fits counts)
begun_fits counts zero x (inr h) = absurd h
begun_fits counts (suc n) x h =
    let from = comes_from (longer counts) x (beginnings counts n) h in
    let r = longer_is 0 counts from.source x from.gives in
    let same : r.place ≡ r.family = omega (arith, r.at) in
    let P : ℕ → Type 0 = λ p. times r.family from.source < get_or counts p 0 in
    longer_fits counts from.source n r.family x r.is (begun_fits counts n from.source from.is_there) (subst P same r.has_lines)

-- a list that is not empty, by its last one
pub record ByLast (x : List ℕ) : Type 0 where
  pub front : List ℕ
  pub last : ℕ
  pub is : x ≡ front ++ last ∷ []

by_last : (x : List ℕ) → 0 < length x → ByLast x
by_last [] h = absurd (omega (arith, h))
by_last (a ∷ []) h = record { front = []; last = a; is = refl }
by_last (a ∷ b ∷ x) h =
    let l = by_last (b ∷ x) (omega arith) in
    record { front = a ∷ l.front; last = l.last; is = ap (λ rest. a ∷ rest) l.is }

front_fits : (counts front : List ℕ) (last n : ℕ) → FitsIn counts (suc n) (front ++ last ∷ []) → FitsIn counts n front
front_fits counts front last n h = record {
  fits = λ family. omega (arith, h.fits family, times_push family last front);
  long = omega (arith, h.long, length_push front last);
}

last_has_lines : (counts front : List ℕ) (last : ℕ) → Fits counts (front ++ last ∷ []) → times last front < get_or counts last 0
last_has_lines counts front last fits = omega (arith, fits last, times_push last last front, one_same last last refl)

pub fits_begun : (counts : List ℕ) (n : ℕ) (x : List ℕ) → FitsIn counts n x → IsOneOf x (beginnings counts n)
fits_begun counts zero x h = inl (nil_from_length x h.long)
fits_begun counts (suc n) x h =
    let l = by_last x (omega (arith, h.long)) in
    let P : List ℕ → Type 0 = λ w. FitsIn counts (suc n) w in
    let Q : List ℕ → Type 0 = λ w. IsOneOf w (longer counts l.front) in
    let k : FitsIn counts (suc n) (l.front ++ l.last ∷ []) = subst P l.is h in
    goes_to (longer counts) x l.front (beginnings counts n)
    (fits_begun counts n l.front (front_fits counts l.front l.last n k))
    (subst Q (sym l.is) (longer_has 0 counts l.front l.last l.last (omega arith) (last_has_lines counts l.front l.last k.fits)))

pub begun_differ : (counts : List ℕ) (n : ℕ) → AllDiffer (beginnings counts n)
begun_differ counts zero = (λ h. h, tt)
begun_differ counts (suc n) =
    differ_flat (longer counts) (beginnings counts n) (begun_differ counts n) (λ y. longer_differ 0 counts y) (longer_apart counts)

pub all_begun : (counts : List ℕ) (orders : List (List ℕ)) → orders ≡ beginnings counts (lines_below (length counts) counts) → AreAll counts orders
all_begun counts orders e =
    let n : ℕ = lines_below (length counts) counts in
    let P : List (List ℕ) → Type 0 = λ xs. AreAll counts xs in
    subst P (sym e) (record {
      exactly = λ order. (
        λ h. (let f = begun_fits counts n order h in long_is_order counts order f.fits f.long),
        λ h. fits_begun counts n order (record { fits = order_fits counts order h; long = order_is_long counts order h }),
      );
      once = begun_differ counts n;
    })
