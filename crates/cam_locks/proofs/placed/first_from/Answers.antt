use Rattle.std.proofs.Common.{◌≡◌, Bool, true, false, List, [], ◌∷◌, Option, Some, None, MatchOption, Bor, refl, sym, ap, subst, ◌∙◌}
use Rattle.std.specs.Prelude.{slice_get, IfSome}
use Rattle.std.specs.Option.{option_copied}
use Rattle.std.specs.Ordering.{is_lt, is_gt, ordering_reverse}
use Rattle.std.specs.declared.cmp.Ordering.{Ordering}
use Rattle.std.specs.declared.cmp.Ordering.TheVariants.{Less, Equal, Greater}
use Rattle.std.specs.declared.ops.Bound.TheVariants.{Included, Unbounded}
use Rattle.std.specs.BTreeSet.{BTreeSet, contains, IsKeyRangeOf, IsKeyInRange}
use Rattle.std.specs.BTreeMap.Range.{IsLeBy}
use Rattle.cam_locks.specs.declared.placed.Placed.{Placed}
use Rattle.cam_locks.specs.Placed.{placed_cmp, is_before, IsFirstFrom}
use Rattle.cam_locks.specs.PlacedLaws.{placed_total}
use Rattle.cam_locks.proofs.placed.first_from.Goals as goal

-- not before is the same as not behind, the other way round
turned : (p q : Placed) → is_gt (placed_cmp p q) ≡ is_before q p
turned p q = by_order (placed_cmp q p) (placed_cmp p q) (placed_total.antisymm p q)
  where
    by_order : (o r : Ordering) → r ≡ ordering_reverse o → is_gt r ≡ is_lt o
    by_order Less r e = ap is_gt e
    by_order Equal r e = ap is_gt e
    by_order Greater r e = ap is_gt e

first_of : (set : BTreeSet Placed) (start : Placed) (r t : List Placed) (n : Option (Bor Placed)) → IsKeyRangeOf placed_cmp (Included start) Unbounded set r
    → MatchOption n ((r ≡ []) × (t ≡ [])) (λ x. r ≡ x.now ∷ t) → IsFirstFrom set start (option_copied n)
first_of set start r t None in_range step = λ q has. by_test q has (is_before q start) refl
  where
    by_test : (q : Placed) → contains placed_cmp set q ≡ true → (b : Bool) → is_before q start ≡ b → b ≡ true
    by_test q has true e = refl
    by_test q has false e = sym (in_range.5 step.0 q (turned start q ∙ e, tt)) ∙ has
first_of set start r t (Some x) in_range step =
    let got : slice_get r 0 ≡ Some x.now = ap (λ (ks : List Placed). slice_get ks 0) step in
    let there = subst (λ (o : Option Placed). IfSome o (IsKeyInRange placed_cmp (Included start) Unbounded set)) got in_range.1 in (
      there.1,
      sym (turned start x.now) ∙ there.0.0,
      λ q has late. sym (turned x.now q) ∙ subst (λ (o : Option Placed). IfSome o (λ k. IsLeBy placed_cmp k q)) got (in_range.2 q (turned start q ∙ late, tt) has),
    )

pub returns : goal.returns
returns c =
    subst (IsFirstFrom c.args.by_name.now c.args.start) (sym c.copied.ensures)
    (first_of c.args.by_name.now c.args.start c.range.result c.next.new.self c.next.result (c.range.ensures.in_range tt) c.next.ensures.steps)
