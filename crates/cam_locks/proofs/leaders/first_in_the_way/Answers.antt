use Rattle.std.proofs.Common.{◌≡◌, ◌≤◌, ◌<◌, ◌+◌, ◌++◌, ℕ, List, true, false, take, drop, length, get_or, set, suc, sym, ap, subst, ◌∙◌, arith}
use Rattle.std.specs.Prelude.{find}
use Rattle.cam_locks.specs.declared.LiveOp.{LiveOp}
use Rattle.cam_type.specs.Moss.{is_in_the_way}
use Rattle.cam_locks.specs.Holding.{KeepsLeaders}
use Rattle.cam_locks.specs.Changes.{holder_in, depth_of, stands}
use Rattle.cam_locks.proofs.Bools.{on_some}
use Rattle.cam_locks.proofs.LastElements.{take_removed}
use Rattle.cam_locks.proofs.LeaderWalks.{walk_kept, walk_none, walk_within, walk_found, walk_passed}
use Rattle.cam_locks.proofs.LeadersPassed.{ArePast, led_past, past_more}
use Rattle.cam_locks.proofs.leaders.first_in_the_way.Goals as goal

pub loop-place-preserved-then-is_past-depth : goal.loop-place-preserved-then-is_past-depth
loop-place-preserved-then-is_past-depth c =
    let ns = c.args.committed.now.names in
    let os = c.args.live.now.ops in
    let a = c.args.name.now in
    let ts = c.loop-place.leaders.items in
    let p = c.loop-place.place in
    let past = c.loop-place.is_past in
    let t = c.index.result.now in
    let new = c.remove.new.self.items in
    let inv = c.loop-place.invariant in
    let lt : p < length ts = omega (arith, c.loop-place-test.true, c.len.ensures) in
    let clear : is_in_the_way a (holder_in ns os t) ≡ false = sym (c.is_in_the_way.ensures ∙ ap (is_in_the_way a) c.holder-holder.ensures) ∙ c.if-is_in_the_way.false in
    let noted : get_or past (depth_of (holder_in ns os t)) false ≡ true =
    subst (λ (k : ℕ). get_or past k false ≡ true) (c.depth_of-depth.ensures.value ∙ ap depth_of c.holder-holder.ensures) c.if-is_past-depth.true in
    let is : new ≡ take p ts ++ drop (suc p) ts = on_some c.remove.result (new ≡ take p ts ++ drop (suc p) ts) (c.remove.ensures.variant.1 (omega (arith, c.loop-place-test.true, c.len.ensures))) c.remove.ensures.items in (
      λ x m next h.
          subst (λ (us : List LiveOp). KeepsLeaders x m ns os next us) (sym is)
          (walk_kept x m ns os next ts p t lt c.index.ensures (led_past ns os a past (take p ts) (holder_in ns os t) inv.3 clear noted) (inv.0 x m next h)),
      walk_none ns os a ts p inv.2 inv.1 ∙ ap (λ (us : List LiveOp). find (stands ns os a) (take p us)) (sym is),
      subst (λ (us : List LiveOp). p ≤ length us) (sym is) (walk_within ts p inv.2),
      subst (λ (us : List LiveOp). ArePast ns os a past (take p us)) (sym is) (subst (ArePast ns os a past) (sym (take_removed ts p inv.2)) inv.3),
    )

pub returns-then-is_in_the_way-clause-value : goal.returns-then-is_in_the_way-clause-value
returns-then-is_in_the_way-clause-value c =
    let ns = c.args.committed.now.names in
    let os = c.args.live.now.ops in
    let a = c.args.name.now in
    let ts = c.loop-place.leaders.items in
    let p = c.loop-place.place in
    let lt : p < length ts = omega (arith, c.loop-place-test.true, c.len.ensures) in
    walk_found ns os a ts p c.index.result.now lt c.index.ensures c.loop-place.invariant.1
    (sym (c.is_in_the_way.ensures ∙ ap (is_in_the_way a) c.holder-holder.ensures) ∙ c.if-is_in_the_way.true)

pub loop-place-preserved : goal.loop-place-preserved
loop-place-preserved c =
    let ns = c.args.committed.now.names in
    let os = c.args.live.now.ops in
    let a = c.args.name.now in
    let ts = c.loop-place.leaders.items in
    let p = c.loop-place.place in
    let past = c.loop-place.is_past in
    let t = c.index.result.now in
    let inv = c.loop-place.invariant in
    let clear : is_in_the_way a (holder_in ns os t) ≡ false = sym (c.is_in_the_way.ensures ∙ ap (is_in_the_way a) c.holder-holder.ensures) ∙ c.if-is_in_the_way.false in
    let lt : p < length ts = omega (arith, c.loop-place-test.true, c.len.ensures) in (
      inv.0,
      walk_passed ns os a ts p t lt c.index.ensures inv.1 clear,
      omega (arith, lt),
      subst (λ (k : ℕ). ArePast ns os a (set past k true) (take (p + 1) ts)) (sym (c.depth_of-depth.ensures.value ∙ ap depth_of c.holder-holder.ensures))
          (past_more ns os a past ts p t lt c.index.ensures clear inv.3),
    )
