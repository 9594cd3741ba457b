use Rattle.std.proofs.Common.{true, false, List, sym, ap, ◌∙◌}
use Rattle.std.proofs.lemmas.List.{drop_all}
use Rattle.cam_event.specs.declared.Operation.{Operation}
use Rattle.cam_event.specs.Live.{start_of}
use Rattle.cam_serial.specs.Answering.{answers_from, state_in}
use Rattle.cam_serial.proofs.Taking.{answers_not, replays_by_test}
use Rattle.cam_serial.proofs.replay.replays.Goals as goal

pub returns-then-not-same : goal.returns-then-not-same
returns-then-not-same c =
    let items = c.as_slice-operation-items.result.now in
    let objects = c.args.objects.now in
    replays_by_test objects c.args.list.now false
    (answers_not (state_in objects c.loop-operation.states) items c.loop-operation.operation-index c.operation-item.result (answers_from (start_of objects) items) c.loop-operation-test.true c.operation-item.is c.loop-operation.invariant (sym c.in_ok-same.ensures.same ∙ c.if-not-same.true)
    ∙ ap (λ (os : List Operation). answers_from (start_of objects) os) c.as_slice-operation-items.ensures)

pub returns : goal.returns
returns c =
    let items = c.as_slice-operation-items.result.now in
    let objects = c.args.objects.now in
    replays_by_test objects c.args.list.now true
    (sym (ap (answers_from (state_in objects c.loop-operation.states)) (drop_all c.loop-operation.operation-index items c.loop-operation-test.false))
    ∙ c.loop-operation.invariant
    ∙ ap (λ (os : List Operation). answers_from (start_of objects) os) c.as_slice-operation-items.ensures)
