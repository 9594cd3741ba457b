-- Events are taken in, one after another.
use Rattle.std.proofs.Common.{List, ◌++◌, reverse, sym, subst}
use Rattle.std.proofs.lemmas.List.{take_all}
use Rattle.cam_base.proofs.Newest.{taken_back}
use Rattle.cam_event.specs.declared.Event.{Event}
use Rattle.cam_cluster.specs.ActionViews.{HasSeen}
use Rattle.cam_cluster.proofs.views.ActionViews.take_events.Goals as goal

pub loop-event-preserved : goal.loop-event-preserved
loop-event-preserved c = λ t has.
    let more =
    taken_back _ _ _ c.loop-event-test.true c.event-item.is in
    rw more (c.in_ok-take_event.ensures _ (c.loop-event.invariant t has))

pub returns : goal.returns
returns c = λ t has.
    let es = c.args.events.now in
    rw (← (take_all c.loop-event.event-index es c.loop-event-test.false)) (c.loop-event.invariant t has)
