-- The live operations as they are found by name.
use Rattle.std.proofs.Common.{◌≡◌, ◌⊎◌, ℕ, eqb, Bool, true, false, not, cond, List, [], ◌∷◌, ◌++◌, refl, sym, ap, subst, ◌∙◌, arith}
use Rattle.std.proofs.Math.Logic.{inl, inr}
use Rattle.std.specs.Prelude.{filter}
use Rattle.std.specs.Cmp.{both_ways}
use Rattle.std.specs.Ordering.{is_eq}
use Rattle.cam_locks.specs.declared.LiveOp.{LiveOp}
use Rattle.cam_locks.specs.declared.placed.Placed.{Placed}
use Rattle.cam_locks.specs.Members.{In}
use Rattle.cam_locks.specs.Site.{IndicesRise}
use Rattle.cam_locks.specs.Live.{other}
use Rattle.cam_locks.specs.Placed.{placed_eq, placed_cmp, placed_of, has_placed}
use Rattle.cam_locks.proofs.Members.{in_left, in_right, in_either, in_last, in_filter, in_filtered, same_op, any_member, any_passes}
use Rattle.cam_locks.proofs.PlacedOrder.{placed_eq_same, placed_eq_refl, placed_is, placed_itself}

-- an operation stands at its place
pub placed_in : (os : List LiveOp) (o : LiveOp) → In o os → has_placed os (placed_of o) ≡ true
placed_in os o h = any_passes (λ p. placed_eq (placed_of o) (placed_of p)) o os h (placed_eq_refl (placed_of o))

-- of a place that is taken there is an operation
pub in_placed : (os : List LiveOp) (p : Placed) → has_placed os p ≡ true → (o : LiveOp) × In o os × (p ≡ placed_of o)
in_placed os p h =
    let found = any_member (λ o. placed_eq p (placed_of o)) os h in
    (found.0, found.1, placed_eq_same p (placed_of found.0) found.2)

-- one more operation
pub named_pushed : (os : List LiveOp) (o : LiveOp) (q : Placed) → cond (is_eq (placed_cmp (placed_of o) q)) true (has_placed os q) ≡ has_placed (os ++ o ∷ []) q
named_pushed os o q =
    both_ways (cond (is_eq (placed_cmp (placed_of o) q)) true (has_placed os q)) (has_placed (os ++ o ∷ []) q) (on_way (is_eq (placed_cmp (placed_of o) q)) refl) back_way
  where
    on_way : (b : Bool) → is_eq (placed_cmp (placed_of o) q) ≡ b → cond b true (has_placed os q) ≡ true → has_placed (os ++ o ∷ []) q ≡ true
    on_way true e h = subst (λ (p : Placed). has_placed (os ++ o ∷ []) p ≡ true) (placed_is (placed_of o) q e) (placed_in (os ++ o ∷ []) o (in_right o os (o ∷ []) (inl refl)))
    on_way false e h =
        let at = in_placed os q h in
        subst (λ (p : Placed). has_placed (os ++ o ∷ []) p ≡ true) (sym at.2) (placed_in (os ++ o ∷ []) at.0 (in_left at.0 os (o ∷ []) at.1))

    by_last : (x : LiveOp) → q ≡ placed_of x → In x os ⊎ In x (o ∷ []) → cond (is_eq (placed_cmp (placed_of o) q)) true (has_placed os q) ≡ true
    by_last x at (inl k) = or_it (is_eq (placed_cmp (placed_of o) q)) (subst (λ (p : Placed). has_placed os p ≡ true) (sym at) (placed_in os x k))
      where
        or_it : (b : Bool) → has_placed os q ≡ true → cond b true (has_placed os q) ≡ true
        or_it true h = refl
        or_it false h = h
    by_last x at (inr k) =
        ap (λ (b : Bool). cond b true (has_placed os q))
        (subst (λ (p : Placed). is_eq (placed_cmp (placed_of o) p) ≡ true) (sym (at ∙ ap placed_of (in_last x o k))) (placed_itself (placed_of o)))

    back_way : has_placed (os ++ o ∷ []) q ≡ true → cond (is_eq (placed_cmp (placed_of o) q)) true (has_placed os q) ≡ true
    back_way h = let at = in_placed (os ++ o ∷ []) q h in by_last at.0 at.2 (in_either at.0 os (o ∷ []) at.1)

-- one less
other_index : (o x : LiveOp) → other o.index x ≡ true → placed_of x ≡ placed_of o → ⊥
other_index o x h e = let same : x.index ≡ o.index = ap (λ (p : Placed). p.index) e in absurd (grind (arith, h, same))

-- what is named without an operation that is dropped
pub named_dropped : (os : List LiveOp) (next : ℕ) (o : LiveOp) (q : Placed) → IndicesRise 0 os next → In o os
    → cond (is_eq (placed_cmp (placed_of o) q)) false (has_placed os q) ≡ has_placed (filter (other o.index) os) q
named_dropped os next o q rise h =
    both_ways (cond (is_eq (placed_cmp (placed_of o) q)) false (has_placed os q)) (has_placed (filter (other o.index) os) q) (on_way (is_eq (placed_cmp (placed_of o) q)) refl) back_way
  where
    still : (x : LiveOp) → In x os → q ≡ placed_of x → is_eq (placed_cmp (placed_of o) q) ≡ false → (b : Bool) → eqb o.index x.index ≡ b → has_placed (filter (other o.index) os) q ≡ true
    still x k at apart false e = subst (λ (p : Placed). has_placed (filter (other o.index) os) p ≡ true) (sym at) (placed_in (filter (other o.index) os) x (in_filtered (other o.index) x os k (ap not e)))
    still x k at apart true e =
        let same : o.index ≡ x.index = grind (arith, e) in
        let one : o ≡ x = same_op 0 os next o x rise h k same in
        let no : true ≡ false = sym (placed_itself (placed_of o)) ∙ ap (λ (p : Placed). is_eq (placed_cmp (placed_of o) p)) (ap placed_of one ∙ sym at) ∙ apart in cc

    on_way : (b : Bool) → is_eq (placed_cmp (placed_of o) q) ≡ b → cond b false (has_placed os q) ≡ true → has_placed (filter (other o.index) os) q ≡ true
    on_way true e k = cc
    on_way false e k = let at = in_placed os q k in still at.0 at.1 at.2 e (eqb o.index at.0.index) refl

    by_eq : (x : LiveOp) → In x os → other o.index x ≡ true → q ≡ placed_of x → (b : Bool) → is_eq (placed_cmp (placed_of o) q) ≡ b → cond b false (has_placed os q) ≡ true
    by_eq x k apart at true e = absurd (other_index o x apart (sym at ∙ sym (placed_is (placed_of o) q e)))
    by_eq x k apart at false e = subst (λ (p : Placed). has_placed os p ≡ true) (sym at) (placed_in os x k)

    back_way : has_placed (filter (other o.index) os) q ≡ true → cond (is_eq (placed_cmp (placed_of o) q)) false (has_placed os q) ≡ true
    back_way k =
        let at = in_placed (filter (other o.index) os) q k in
        let was = in_filter (other o.index) at.0 os at.1 in
        by_eq at.0 was.0 was.1 at.2 (is_eq (placed_cmp (placed_of o) q)) refl
