-- The beginnings that are one place longer than another.
use Rattle.std.proofs.Common.{◌≡◌, ◌⊎◌, ◌<◌, ◌+◌, nat_lt, Bool, true, false, ℕ, zero, suc, List, [], ◌∷◌, ◌++◌, get_or, if◌then◌else◌, refl, sym, ◌∙◌, subst, inl, inr, arith}
use Rattle.std.proofs.lemmas.List.{same_from_push}
use Rattle.std.proofs.lemmas.Bool.{lt-ltb, ltb-true}
use Rattle.cam_orders.specs.Orders.{times, longer, longer_from, AllDiffer, IsOneOf}
use Rattle.cam_orders.proofs.Members.{differ_both, in_back, in_either, in_front}

-- one list at most
abbrev single : Bool → List ℕ → List (List ℕ)
single b y = if b then y ∷ [] else []

single_is : (b : Bool) (x y : List ℕ) → IsOneOf x (single b y) → (b ≡ true) × (x ≡ y)
single_is true x y (inl e) = (refl, e)
single_is true x y (inr h) = absurd h
single_is false x y h = absurd h

single_has : (b : Bool) (y : List ℕ) → b ≡ true → IsOneOf y (single b y)
single_has b y e =
    let P : Bool → Type 0 = λ c. IsOneOf y (single c y) in
    subst P (sym e) (inl refl)

single_differ : (b : Bool) (y : List ℕ) → AllDiffer (single b y)
single_differ true y = (λ h. h, tt)
single_differ false y = tt

-- x is longer by one of the families from k on that has lines left
pub record LongerBy (k : ℕ) (counts begun x : List ℕ) : Type 0 where
  pub family : ℕ
  pub place : ℕ
  pub at : family ≡ k + place
  pub has_lines : times family begun < get_or counts place 0
  pub is : x ≡ begun ++ family ∷ []

either : (k count : ℕ) (counts begun x : List ℕ)
    → (IsOneOf x (longer_from (k + 1) counts begun) → LongerBy (k + 1) counts begun x)
    → IsOneOf x (single (nat_lt (times k begun) count) (begun ++ k ∷ [])) ⊎ IsOneOf x (longer_from (k + 1) counts begun)
    → LongerBy k (count ∷ counts) begun x
either k count counts begun x again (inl h) =
    let s = single_is (nat_lt (times k begun) count) x (begun ++ k ∷ []) h in
    record { family = k; place = zero; at = omega arith; has_lines = ltb-true (times k begun) count s.0; is = s.1 }
either k count counts begun x again (inr h) =
    let r = again h in
    record { family = r.family; place = suc r.place; at = omega (arith, r.at); has_lines = r.has_lines; is = r.is }

pub longer_is : (k : ℕ) (counts begun x : List ℕ) → IsOneOf x (longer_from k counts begun) → LongerBy k counts begun x
longer_is k [] begun x h = absurd h
longer_is k (count ∷ counts) begun x h =
    either k count counts begun x (longer_is (k + 1) counts begun x)
    (in_either x (single (nat_lt (times k begun) count) (begun ++ k ∷ [])) (longer_from (k + 1) counts begun) h)

at_first : (k count : ℕ) (counts begun : List ℕ) → times k begun < count
    → IsOneOf (begun ++ k ∷ []) (longer_from k (count ∷ counts) begun)
at_first k count counts begun h =
    in_front (begun ++ k ∷ []) (single (nat_lt (times k begun) count) (begun ++ k ∷ [])) (longer_from (k + 1) counts begun)
    (single_has (nat_lt (times k begun) count) (begun ++ k ∷ []) (lt-ltb (times k begun) count h))

pub longer_has : (k : ℕ) (counts begun : List ℕ) (family place : ℕ) → family ≡ k + place
    → times family begun < get_or counts place 0 → IsOneOf (begun ++ family ∷ []) (longer_from k counts begun)
longer_has k [] begun family place e h = absurd (omega (arith, h))
longer_has k (count ∷ counts) begun family zero e h =
    let same : family ≡ k = omega (arith, e) in
    let P : ℕ → Type 0 = λ f. times f begun < count in
    let Q : ℕ → Type 0 = λ f. IsOneOf (begun ++ f ∷ []) (longer_from k (count ∷ counts) begun) in
    subst Q (sym same) (at_first k count counts begun (subst P same h))
longer_has k (count ∷ counts) begun family (suc place) e h =
    in_back (begun ++ family ∷ []) (single (nat_lt (times k begun) count) (begun ++ k ∷ [])) (longer_from (k + 1) counts begun)
    (longer_has (k + 1) counts begun family place (omega (arith, e)) h)

pub longer_differ : (k : ℕ) (counts begun : List ℕ) → AllDiffer (longer_from k counts begun)
longer_differ k [] begun = tt
longer_differ k (count ∷ counts) begun =
    differ_both (single (nat_lt (times k begun) count) (begun ++ k ∷ [])) (longer_from (k + 1) counts begun)
    (single_differ (nat_lt (times k begun) count) (begun ++ k ∷ [])) (longer_differ (k + 1) counts begun)
    (λ x front back.
    let s = single_is (nat_lt (times k begun) count) x (begun ++ k ∷ []) front in
    let r = longer_is (k + 1) counts begun x back in
    let e : k ≡ r.family = (same_from_push begun begun k r.family (sym s.1 ∙ r.is)).1 in
    absurd (omega (arith, e, r.at)))

pub longer_apart : (counts x y z : List ℕ) → IsOneOf x (longer counts y) → IsOneOf x (longer counts z) → y ≡ z
longer_apart counts x y z h k =
    let a = longer_is 0 counts y x h in
    let b = longer_is 0 counts z x k in
    (same_from_push y z a.family b.family (sym a.is ∙ b.is)).0
