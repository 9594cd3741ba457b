-- The sums of all objects, through each change of the live operations.
use Rattle.std.proofs.Common.{◌≡◌, ℕ, ℤ, ◌<◌, ◌≤◌, pos, eqb, eq-eqb, Bool, true, false, not, ◌&&◌, cond, List, [], ◌∷◌, ◌++◌, get_or, set, replicate, get_or-set_same, get_or-set_other, length-set, append-nil, suc, refl, sym, ap, ◌∙◌, arith}
use Rattle.std.proofs.Math.Logic.{inl, inr}
use Rattle.std.specs.Prelude.{filter, FitsSigned}
use Rattle.std.specs.Int.{w64, int_wrapping_add, int_wrapping_sub}
use Rattle.std.proofs.lemmas.List.{get_or-replicate, length-replicate}
use Rattle.std.proofs.lemmas.List.Elements.{filter-append}
use Rattle.cam_type.proofs.Sums.{sums_join}
use Rattle.cam_locks.specs.declared.LiveOp.{LiveOp}
use Rattle.cam_locks.specs.Members.{In}
use Rattle.cam_locks.specs.Site.{IndicesRise}
use Rattle.cam_locks.specs.Moss.{is_on}
use Rattle.cam_locks.specs.Live.{other}
use Rattle.cam_locks.specs.Sums.{added_of, sum_of, sum_on, with_more, with_less, AreSums}
use Rattle.cam_locks.proofs.EachObject.{by_eq, on_object, off_object}
use Rattle.cam_locks.proofs.Lists.{filter_twice}
use Rattle.cam_locks.proofs.Members.{filter_agree, same_op, above}
use Rattle.cam_locks.proofs.SumLaws.{sum_swaps, sum_more, sum_back}

-- those above an index are all kept where it is left out
all_above : (os : List LiveOp) (i low next : ℕ) → IndicesRise low os next → i < low → filter (other i) os ≡ os
all_above [] i low next rise lt = refl
all_above (o ∷ os) i low next rise lt =
    ap (λ (c : Bool). cond (not c) (o ∷ filter (other i) os) (filter (other i) os)) apart
    ∙ ap (λ (ps : List LiveOp). o ∷ ps) (all_above os i (suc o.index) next rise.1 (omega (arith, from)))
  where
    from : low ≤ o.index
    from = rise.0

    apart : eqb i o.index ≡ false
    apart = grind (arith, from, lt)

-- one less, of those on an object
pub sum_less : (x : ℕ) (low : ℕ) (os : List LiveOp) (next : ℕ) (n : LiveOp) → IndicesRise low os next → In n os → is_on x n ≡ true
    → sum_on x os ≡ int_wrapping_add w64 (added_of n.op) (sum_on x (filter (other n.index) os))
sum_less x low [] next n rise h on = absurd h
sum_less x low (o ∷ os) next n rise (inl e) on =
    let here : is_on x o ≡ true = ap (is_on x) (sym e) ∙ on in
    let same : eqb n.index o.index ≡ true = eq-eqb n.index o.index (ap (λ (p : LiveOp). p.index) e) in
    let rest : filter (other n.index) os ≡ os = all_above os n.index (suc o.index) next rise.1 (omega (arith, ap (λ (p : LiveOp). p.index) e)) in
    ap (λ (b : Bool). sum_of (cond b (o ∷ filter (is_on x) os) (filter (is_on x) os))) here
    ∙ ap (λ (p : LiveOp). int_wrapping_add w64 (added_of p.op) (sum_on x os)) (sym e)
    ∙ ap (λ (ps : List LiveOp). int_wrapping_add w64 (added_of n.op) (sum_on x ps)) (sym rest ∙ sym (ap (λ (b : Bool). cond (not b) (o ∷ filter (other n.index) os) (filter (other n.index) os)) same))
sum_less x low (o ∷ os) next n rise (inr h) on =
    let later : suc o.index ≤ n.index = above (suc o.index) os next n rise.1 h in
    let apart : eqb n.index o.index ≡ false = grind (arith, later) in
    by (is_on x o) refl (sum_less x (suc o.index) os next n rise.1 h on)
    ∙ ap (λ (b : Bool). int_wrapping_add w64 (added_of n.op) (sum_on x (cond (not b) (o ∷ filter (other n.index) os) (filter (other n.index) os)))) (sym apart)
  where
    rest : List LiveOp
    rest = filter (other n.index) os

    by : (b : Bool) → is_on x o ≡ b → sum_on x os ≡ int_wrapping_add w64 (added_of n.op) (sum_on x rest)
        → sum_of (cond (is_on x o) (o ∷ filter (is_on x) os) (filter (is_on x) os)) ≡ int_wrapping_add w64 (added_of n.op) (sum_of (cond (is_on x o) (o ∷ filter (is_on x) rest) (filter (is_on x) rest)))
    by false e so =
        ap (λ (c : Bool). sum_of (cond c (o ∷ filter (is_on x) os) (filter (is_on x) os))) e ∙ so
        ∙ ap (λ (c : Bool). int_wrapping_add w64 (added_of n.op) (sum_of (cond c (o ∷ filter (is_on x) rest) (filter (is_on x) rest)))) (sym e)
    by true e so =
        ap (λ (c : Bool). sum_of (cond c (o ∷ filter (is_on x) os) (filter (is_on x) os))) e
        ∙ ap (int_wrapping_add w64 (added_of o.op)) so
        ∙ sums_join (added_of o.op) (added_of n.op) (sum_on x rest)
        ∙ ap (λ (v : ℤ). int_wrapping_add w64 v (sum_on x rest)) (sum_swaps (added_of o.op) (added_of n.op))
        ∙ sym (sums_join (added_of n.op) (added_of o.op) (sum_on x rest))
        ∙ ap (λ (c : Bool). int_wrapping_add w64 (added_of n.op) (sum_of (cond c (o ∷ filter (is_on x) rest) (filter (is_on x) rest)))) (sym e)

-- an operation elsewhere that is left out changes no sum
sum_apart : (x : ℕ) (low : ℕ) (os : List LiveOp) (next : ℕ) (n : LiveOp) → IndicesRise low os next → In n os → is_on x n ≡ false → sum_on x (filter (other n.index) os) ≡ sum_on x os
sum_apart x low os next n rise h off =
    ap sum_of (filter_twice (is_on x) (other n.index) os ∙ filter_agree (λ o. other n.index o && is_on x o) (is_on x) os agree)
  where
    agree : (o : LiveOp) → In o os → (other n.index o && is_on x o) ≡ is_on x o
    agree o k = by (eqb n.index o.index) refl
      where
        by : (b : Bool) → eqb n.index o.index ≡ b → (not b && is_on x o) ≡ is_on x o
        by false e = refl
        by true e =
            let same : n ≡ o = same_op low os next n o rise h k (grind (arith, e)) in
            sym (ap (is_on x) (sym same) ∙ off)

-- Without operations each sum is 0.
pub sums_none : (os : List LiveOp) → os ≡ [] → AreSums (replicate 256 (pos 0)) os
sums_none os none = record { places = length-replicate 256 (pos 0); each = λ x lt. get_or-replicate 256 x (pos 0) (pos 0) lt ∙ sym (ap (sum_on x) none) }

-- With one more operation at the end its part is added to the sum of its object.
pub sums_more : (sums : List ℤ) (os : List LiveOp) (n : LiveOp) → n.object < 256 → AreSums sums os
    → AreSums (with_more sums n.object (added_of n.op)) (os ++ n ∷ [])
sums_more sums os n small are = record { places = length-set sums n.object _ ∙ are.places; each = λ x lt. elim (by_eq x n.object) [ inl e ↦ here x lt e | inr a ↦ off x lt a ] }
  where
    new : ℤ
    new = int_wrapping_add w64 (get_or sums n.object (pos 0)) (added_of n.op)

    here : (x : ℕ) → x < 256 → x ≡ n.object → get_or (set sums n.object new) x (pos 0) ≡ sum_on x (os ++ n ∷ [])
    here x lt e =
        ap (λ (k : ℕ). get_or (set sums n.object new) k (pos 0)) e ∙ get_or-set_same sums n.object new (pos 0) (omega (arith, are.places, small))
        ∙ ap (λ (s : ℤ). int_wrapping_add w64 s (added_of n.op)) (are.each n.object small ∙ ap (λ (k : ℕ). sum_on k os) (sym e))
        ∙ sym (ap sum_of (filter-append (is_on x) os (n ∷ []) ∙ ap (λ (b : Bool). filter (is_on x) os ++ cond b (n ∷ []) []) (on_object x n e)) ∙ sum_more (filter (is_on x) os) n)

    off : (x : ℕ) → x < 256 → (x ≡ n.object → ⊥) → get_or (set sums n.object new) x (pos 0) ≡ sum_on x (os ++ n ∷ [])
    off x lt a =
        get_or-set_other sums n.object x new (pos 0) a ∙ are.each x lt
        ∙ sym (ap sum_of (filter-append (is_on x) os (n ∷ []) ∙ ap (λ (b : Bool). filter (is_on x) os ++ cond b (n ∷ []) []) (off_object x n a) ∙ append-nil (filter (is_on x) os)))

-- Without an operation that is dropped each sum is what is left when its part is taken back.
pub sums_less : (sums : List ℤ) (os : List LiveOp) (next : ℕ) (n : LiveOp) → n.object < 256 → FitsSigned w64 (added_of n.op) → IndicesRise 0 os next → In n os → AreSums sums os
    → AreSums (with_less sums n.object (added_of n.op)) (filter (other n.index) os)
sums_less sums os next n small fits rise h are = record { places = length-set sums n.object _ ∙ are.places; each = λ x lt. elim (by_eq x n.object) [ inl e ↦ here x lt e | inr a ↦ off x lt a ] }
  where
    new : ℤ
    new = int_wrapping_sub w64 (get_or sums n.object (pos 0)) (added_of n.op)

    here : (x : ℕ) → x < 256 → x ≡ n.object → get_or (set sums n.object new) x (pos 0) ≡ sum_on x (filter (other n.index) os)
    here x lt e =
        ap (λ (k : ℕ). get_or (set sums n.object new) k (pos 0)) e ∙ get_or-set_same sums n.object new (pos 0) (omega (arith, are.places, small))
        ∙ ap (λ (s : ℤ). int_wrapping_sub w64 s (added_of n.op)) (are.each n.object small ∙ ap (λ (k : ℕ). sum_on k os) (sym e) ∙ sum_less x 0 os next n rise h (on_object x n e))
        ∙ sum_back (added_of n.op) (filter (is_on x) (filter (other n.index) os)) fits

    off : (x : ℕ) → x < 256 → (x ≡ n.object → ⊥) → get_or (set sums n.object new) x (pos 0) ≡ sum_on x (filter (other n.index) os)
    off x lt a =
        get_or-set_other sums n.object x new (pos 0) a ∙ are.each x lt ∙ sym (sum_apart x 0 os next n rise h (off_object x n a))
