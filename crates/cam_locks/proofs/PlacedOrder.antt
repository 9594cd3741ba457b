-- The order of the live operations by the names of their actions: what is below an action stands together.
use Rattle.std.proofs.Common.{◌≡◌, ℕ, ◌+◌, Bool, true, false, not, [], ◌∷◌, refl, sym, ap, subst, ◌∙◌, arith}
use Rattle.std.specs.Bool.{◌==◌}
use Rattle.std.specs.Ordering.{nat_cmp, is_lt, is_eq, ordering_then, ordering_reverse}
use Rattle.std.specs.declared.cmp.Ordering.{Ordering}
use Rattle.std.specs.declared.cmp.Ordering.TheVariants.{Less, Equal, Greater}
use Rattle.std.proofs.lemmas.Cmp.{tied_itself}
use Rattle.std.proofs.lemmas.Bool.{and_parts, and_from}
use Rattle.cam_names.specs.declared.name.Name.{Name}
use Rattle.cam_names.specs.Part.{PartFields, part_eq, part_cmp}
use Rattle.cam_names.specs.Names.{name_eq, name_cmp, is_prefix, is_ancestor}
use Rattle.cam_names.proofs.Names.{name_eq_same, name_eq_refl, part_eq_same}
use Rattle.cam_names.proofs.Order.{name_total, name_tied}
use Rattle.cam_locks.specs.declared.placed.Placed.{Placed}
use Rattle.cam_locks.specs.Placed.{placed_eq, placed_cmp, is_before}
use Rattle.cam_locks.specs.PlacedLaws.{placed_total}

-- places that the order does not part are the same
both_tied : (o p : Ordering) → ordering_then o p ≡ Equal → (o ≡ Equal) × (p ≡ Equal)
both_tied Less p h = cc
both_tied Equal p h = (refl, h)
both_tied Greater p h = cc

nat_tied : (m n : ℕ) → nat_cmp m n ≡ Equal → m ≡ n
nat_tied m n h = grind arith

pub placed_tied : (p q : Placed) → placed_cmp p q ≡ Equal → p ≡ q
placed_tied p q h =
    let both = both_tied (name_cmp p.name q.name) (nat_cmp p.index q.index) h in
    λ i. record { name = name_tied p.name q.name both.0 i; index = nat_tied p.index q.index both.1 i }

-- places that are tested to be the same are the same
pub placed_eq_same : (p q : Placed) → placed_eq p q ≡ true → p ≡ q
placed_eq_same p q h =
    let both = and_parts (name_eq p.name q.name) (p.index == q.index) h in
    let same : p.index ≡ q.index = grind (arith, both.1) in
    λ i. record { name = name_eq_same p.name q.name both.0 i; index = same i }

-- a place is tested to be itself
pub placed_eq_refl : (p : Placed) → placed_eq p p ≡ true
placed_eq_refl p = and_from (name_eq p.name p.name) (p.index == p.index) (name_eq_refl p.name) (grind arith)

equal_of : (o : Ordering) → is_eq o ≡ true → o ≡ Equal
equal_of Less h = cc
equal_of Equal h = refl
equal_of Greater h = cc

-- places that tie are the same
pub placed_is : (p q : Placed) → is_eq (placed_cmp p q) ≡ true → p ≡ q
placed_is p q h = placed_tied p q (equal_of (placed_cmp p q) h)

-- a place ties with itself
pub placed_itself : (p : Placed) → is_eq (placed_cmp p p) ≡ true
placed_itself p = ap is_eq (tied_itself placed_total p)

-- one is before, or the other, or they are the same
less_of : (o : Ordering) → is_lt o ≡ true → o ≡ Less
less_of Less h = refl
less_of Equal h = cc
less_of Greater h = cc

-- what is before what is before a place is before it
pub before_trans : (p q r : Placed) → is_before p q ≡ true → is_before q r ≡ true → is_before p r ≡ true
before_trans p q r h k = ap is_lt (placed_total.trans p q r (less_of (placed_cmp p q) h) (less_of (placed_cmp q r) k))

-- no place is before itself
pub not_before_itself : (p : Placed) → is_before p p ≡ false
not_before_itself p = ap is_lt (tied_itself placed_total p)

-- places of which neither is before the other are the same
pub neither_before : (p q : Placed) → is_before p q ≡ false → is_before q p ≡ false → p ≡ q
neither_before p q h k = by_order (placed_cmp p q) refl
  where
    by_order : (o : Ordering) → placed_cmp p q ≡ o → p ≡ q
    by_order Less e = let no : true ≡ false = sym (ap is_lt e) ∙ h in cc
    by_order Equal e = placed_tied p q e
    by_order Greater e = let no : true ≡ false = sym (ap is_lt (placed_total.antisymm q p ∙ ap ordering_reverse e)) ∙ k in cc

-- where p is not behind q, and q not behind r, p is not behind r
pub not_behind : (p q r : Placed) → is_before q p ≡ false → is_before r q ≡ false → is_before r p ≡ false
not_behind p q r h k = by_test (is_before r p) refl
  where
    by_test : (b : Bool) → is_before r p ≡ b → is_before r p ≡ false
    by_test false e = e
    by_test true e = by_order (placed_cmp p q) refl
      where
        by_order : (o : Ordering) → placed_cmp p q ≡ o → is_before r p ≡ false
        by_order Less d = let no : true ≡ false = sym (before_trans r p q e (ap is_lt d)) ∙ k in cc
        by_order Equal d = ap (is_before r) (placed_tied p q d) ∙ k
        by_order Greater d = let no : true ≡ false = sym (ap is_lt (placed_total.antisymm q p ∙ ap ordering_reverse d)) ∙ h in cc

-- the places before the one behind p are those that are not behind p
pub before_next : (p q : Placed) → is_before q (record { name = p.name; index = p.index + 1 }) ≡ not (is_before p q)
before_next p q = by_order (name_cmp q.name p.name) (name_cmp p.name q.name) (name_total.antisymm p.name q.name)
  where
    by_order : (o r : Ordering) → r ≡ ordering_reverse o → is_lt (ordering_then o (nat_cmp q.index (p.index + 1))) ≡ not (is_lt (ordering_then r (nat_cmp p.index q.index)))
    by_order Less r e = sym (ap (λ (s : Ordering). not (is_lt (ordering_then s (nat_cmp p.index q.index)))) e)
    by_order Greater r e = sym (ap (λ (s : Ordering). not (is_lt (ordering_then s (nat_cmp p.index q.index)))) e)
    by_order Equal r e = by_index ∙ sym (ap (λ (s : Ordering). not (is_lt (ordering_then s (nat_cmp p.index q.index)))) e)
      where
        by_index : is_lt (nat_cmp q.index (p.index + 1)) ≡ not (is_lt (nat_cmp p.index q.index))
        by_index = grind arith

-- an action is before all that is below it
prefix_first : (n a : Name) → is_prefix n a ≡ true → is_lt (name_cmp a n) ≡ false
prefix_first [] [] h = refl
prefix_first [] (q ∷ a) h = refl
prefix_first (p ∷ n) [] h = cc
prefix_first (p ∷ n) (q ∷ a) h =
    let both = and_parts (part_eq p q) (is_prefix n a) h in
    let same : p ≡ q = part_eq_same p q both.0 in
    ap (λ (o : Ordering). is_lt (ordering_then o (name_cmp a n))) (ap (part_cmp q) same ∙ part_itself q) ∙ prefix_first n a both.1
  where
    part_itself : (q : PartFields) → part_cmp q q ≡ Equal
    part_itself q = (both_tied (part_cmp q q) Equal (tied_itself name_total (q ∷ []))).0

-- no place of an action or below it is before the action's first
pub first_below : (n : Name) (q : Placed) → is_ancestor n q.name ≡ true → is_before q (record { name = n; index = 0 }) ≡ false
first_below [] q h = cc
first_below (p ∷ n) q h = by_order (name_cmp q.name (p ∷ n)) (prefix_first (p ∷ n) q.name h)
  where
    by_order : (o : Ordering) → is_lt o ≡ false → is_lt (ordering_then o (nat_cmp q.index 0)) ≡ false
    by_order Less k = k
    by_order Equal k = grind arith
    by_order Greater k = k

-- what is between an action and one below it is below it too
part_reverse : (p q : PartFields) → part_cmp p q ≡ ordering_reverse (part_cmp q p)
part_reverse p q = by_order (part_cmp p q) (part_cmp q p) (name_total.antisymm (p ∷ []) (q ∷ []))
  where
    by_order : (o r : Ordering) → ordering_then o Equal ≡ ordering_reverse (ordering_then r Equal) → o ≡ ordering_reverse r
    by_order Less Less e = e
    by_order Less Equal e = e
    by_order Less Greater e = e
    by_order Equal Less e = e
    by_order Equal Equal e = e
    by_order Equal Greater e = e
    by_order Greater Less e = e
    by_order Greater Equal e = e
    by_order Greater Greater e = e

prefix_between : (n m a : Name) → is_prefix n a ≡ true → is_lt (name_cmp m n) ≡ false → is_lt (name_cmp a m) ≡ false → is_prefix n m ≡ true
prefix_between [] m a h k l = refl
prefix_between (p ∷ n) [] a h k l = cc
prefix_between (p ∷ n) (q ∷ m) [] h k l = cc
prefix_between (p ∷ n) (q ∷ m) (r ∷ a) h k l =
    let both = and_parts (part_eq p r) (is_prefix n a) h in
    let same : p ≡ r = part_eq_same p r both.0 in
    by_order (part_cmp p q) refl (prefix_between n m a both.1) (subst (λ (s : PartFields). is_lt (ordering_then (part_cmp s q) (name_cmp a m)) ≡ false) (sym same) l)
  where
    by_order : (o : Ordering) → part_cmp p q ≡ o → (is_lt (name_cmp m n) ≡ false → is_lt (name_cmp a m) ≡ false → is_prefix n m ≡ true) → is_lt (ordering_then (part_cmp p q) (name_cmp a m)) ≡ false
        → is_prefix (p ∷ n) (q ∷ m) ≡ true
    by_order Less e rest later = let no : true ≡ false = sym (ap (λ (o : Ordering). is_lt (ordering_then o (name_cmp a m))) e) ∙ later in cc
    by_order Greater e rest later =
        let no : true ≡ false = sym (ap (λ (o : Ordering). is_lt (ordering_then o (name_cmp m n))) (part_reverse q p ∙ ap ordering_reverse e)) ∙ k in cc
    by_order Equal e rest later =
        let one : (p ∷ []) ≡ (q ∷ []) = name_tied (p ∷ []) (q ∷ []) (ap (λ (o : Ordering). ordering_then o Equal) e) in
        let heads = and_parts (part_eq p q) true (subst (λ (a : Name). name_eq (p ∷ []) a ≡ true) one (name_eq_refl (p ∷ []))) in
        and_from (part_eq p q) (is_prefix n m) heads.0
        (rest
        (sym (ap (λ (o : Ordering). is_lt (ordering_then o (name_cmp m n))) (part_reverse q p ∙ ap ordering_reverse e)) ∙ k)
        (sym (ap (λ (o : Ordering). is_lt (ordering_then o (name_cmp a m))) e) ∙ later))

name_before : (p q : Placed) → is_before p q ≡ false → is_lt (name_cmp p.name q.name) ≡ false
name_before p q = by_order (name_cmp p.name q.name)
  where
    by_order : (o : Ordering) → is_lt (ordering_then o (nat_cmp p.index q.index)) ≡ false → is_lt o ≡ false
    by_order Less h = h
    by_order Equal h = refl
    by_order Greater h = refl

-- What stands between an action's first place and a place below it is below it too.
pub between : (n : Name) (p q : Placed) → is_ancestor n q.name ≡ true → is_before p (record { name = n; index = 0 }) ≡ false → is_before q p ≡ false → is_ancestor n p.name ≡ true
between [] p q h k l = cc
between (s ∷ n) p q h k l = prefix_between (s ∷ n) p.name q.name h (name_before p (record { name = s ∷ n; index = 0 }) k) (name_before q p l)
