use Rattle.std.proofs.Common.{◌≡◌, List, Some, reverse, rules, subst}
use Rattle.std.specs.Prelude.{slice_get}
use Rattle.cam_event.specs.declared.Event.{Event}
use Rattle.cam_explain.proofs.Causes.{stop_by_number}
use Rattle.cam_explain.proofs.Stopping.{item_at, stops_step}
use Rattle.cam_explain.proofs.stops.write_stops.Goals as goal

pub loop-number-preserved : goal.loop-number-preserved
loop-number-preserved c = λ whole.
    let trace : List Event = c.args.run.now.trace in
    let items : c.as_slice-event-items.result.now ≡ c.args.run.now.trace = search rules in
    let here : slice_get c.args.run.now.trace c.loop-number.number ≡ Some c.event-item.result =
    subst (λ (xs : List Event). slice_get xs c.loop-number.number ≡ Some c.event-item.result) items
    (item_at c.as_slice-event-items.result.now c.loop-number.number c.event-item.result c.loop-number-test.true c.event-item.is)
    in
    stops_step c.args.scope.now (reverse trace) trace c.loop-number.number c.event-item.result _ _ _ here
    (c.in_ok-write_stop.ensures whole (stop_by_number trace c.loop-number.number c.event-item.result here)) (c.loop-number.invariant whole)
