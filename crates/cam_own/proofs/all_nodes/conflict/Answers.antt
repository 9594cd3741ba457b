use Rattle.std.proofs.Common.{◌≡◌, ◌≤◌, eqb, length, true, false, sym, ap, ◌∙◌, filter, arith}
use Rattle.std.specs.Prelude.{find}
use Rattle.cam_type.specs.Moss.{conflicts}
use Rattle.cam_event.specs.declared.Operation.{Operation}
use Rattle.cam_event.specs.Live.{lift}
use Rattle.cam_own.proofs.Searching.{found_at, passed_at, none_left}
use Rattle.cam_own.proofs.all_nodes.conflict.Goals as goal

pub returns-then-is_conflict : goal.returns-then-is_conflict
returns-then-is_conflict c = λ objects s L E kept.
    let q = λ (o : Operation). conflicts c.args.action.now c.args.op.now (lift L s o.action) o.op in
    let p = λ (o : Operation). eqb o.object c.args.object in
    let found : c.is_conflict.result ≡ true = grind arith in
    found_at p q c.as_slice-operation-items.result.now c.loop-operation.operation-index c.operation-item.result c.loop-operation-test.true c.operation-item.is (c.loop-operation.invariant objects s L E kept) (sym (c.is_conflict.ensures objects s L E kept) ∙ found)
    ∙ ap (λ os. find q (filter p os)) c.as_slice-operation-items.ensures

pub loop-operation-preserved : goal.loop-operation-preserved
loop-operation-preserved c = λ objects s L E kept.
    let q = λ (o : Operation). conflicts c.args.action.now c.args.op.now (lift L s o.action) o.op in
    let p = λ (o : Operation). eqb o.object c.args.object in
    let found : c.is_conflict.result ≡ false = grind arith in
    passed_at p q c.as_slice-operation-items.result.now c.loop-operation.operation-index c.operation-item.result c.loop-operation-test.true c.operation-item.is (c.loop-operation.invariant objects s L E kept) (sym (c.is_conflict.ensures objects s L E kept) ∙ found)

pub returns : goal.returns
returns c = λ objects s L E kept.
    let q = λ (o : Operation). conflicts c.args.action.now c.args.op.now (lift L s o.action) o.op in
    let p = λ (o : Operation). eqb o.object c.args.object in
    let past : length c.as_slice-operation-items.result.now ≤ c.loop-operation.operation-index = omega (arith, c.loop-operation-test.false) in
    none_left p q c.as_slice-operation-items.result.now c.loop-operation.operation-index past (c.loop-operation.invariant objects s L E kept)
    ∙ ap (λ os. find q (filter p os)) c.as_slice-operation-items.ensures
