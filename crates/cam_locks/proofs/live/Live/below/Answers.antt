use Rattle.std.proofs.Common.{◌≡◌, List, length, ◌<◌, sym, subst, ap, ◌∙◌, arith}
use Rattle.std.specs.Prelude.{filter}
use Rattle.std.proofs.lemmas.Result.{IfOk-weaker}
use Rattle.cam_locks.specs.declared.LiveOp.{LiveOp}
use Rattle.cam_locks.specs.declared.placed.Placed.{Placed}
use Rattle.cam_locks.specs.Calls.{is_below}
use Rattle.cam_locks.specs.Restored.{in_order}
use Rattle.cam_locks.specs.Placed.{behind, IsNextBelow}
use Rattle.cam_locks.proofs.Members.{below}
use Rattle.cam_locks.proofs.NextBelow.{IsFoundBelow, late, found_none, found_more, found_all, fewer_late}
use Rattle.cam_locks.proofs.live.Live.below.Goals as goal

pub loop-operation-init : goal.loop-operation-init
loop-operation-init c =
    let n = c.args.name.now in
    subst (λ (os : List LiveOp). IsFoundBelow c.args.self.now.ops n (record { name = n; index = 0 }) os) (sym c.new-found.ensures.items) (found_none c.args.self.now.ops n)

pub behind-start-requires : goal.behind-start-requires
behind-start-requires c =
    let lt : c.in-Some.operation.index < c.args.self.now.next =
    below 0 c.args.self.now.ops c.args.self.now.next c.in-Some.operation c.next_below.ensures.order c.in-Some.ensures.value.0 in
    omega (arith, lt, c.next_below.ensures.range)

pub loop-operation-smaller : goal.loop-operation-smaller
loop-operation-smaller c =
    let os = c.args.self.now.ops in
    subst (λ (p : Placed). length (filter (late p) os) < length (filter (late c.loop-operation.start) os)) (sym c.behind-start.ensures)
    (fewer_late os c.args.name.now c.loop-operation.start c.in-Some.operation c.in-Some.ensures.value)

pub loop-operation-preserved : goal.loop-operation-preserved
loop-operation-preserved c =
    let os = c.args.self.now.ops in
    let n = c.args.name.now in
    let o = c.in-Some.operation in
    let found = c.loop-operation.found.items in
    subst (λ (p : Placed). IsFoundBelow os n p c.push.new.self.items) (sym c.behind-start.ensures)
    (subst (λ (ps : List LiveOp). IsFoundBelow os n (behind o) ps) (sym c.in_ok-push.ensures.items)
    (found_more os c.args.self.now.next n c.loop-operation.start found o c.next_below.ensures.order c.loop-operation.invariant c.in-Some.ensures.value))

pub returns : goal.returns
returns c =
    let os = c.args.self.now.ops in
    let n = c.args.name.now in
    IfOk-weaker c.in_order.result (λ v. v.items ≡ in_order c.as_slice.result.now) (λ v. v.items ≡ filter (is_below n) os)
    (λ v h. h ∙ ap in_order c.as_slice.ensures.value
    ∙ found_all os c.args.self.now.next n c.loop-operation.start c.loop-operation.found.items c.next_below.ensures.order c.loop-operation.invariant
    (subst (IsNextBelow os n c.loop-operation.start) c.in_default.is c.next_below.ensures.value)) c.in_order.ensures
