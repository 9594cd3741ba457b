-- The events so far are taken in.
use Rattle.std.proofs.Common.{List, ◌++◌, reverse, take}
use Rattle.cam_event.specs.declared.Event.{Event}
use Rattle.cam_cluster.specs.ActionViews.{HasSeen}
use Rattle.cam_cluster.proofs.views.ActionViews.take_events.Given as goal

abbrev pub invariant-loop-event : goal.invariant-loop-event
invariant-loop-event l =
    (t : List Event) → HasSeen t l.fn.self
    → HasSeen (reverse (take l.event-index l.events) ++ t) l.self
