use Rattle.std.proofs.Common.{◌≡◌, reverse, take}
use Rattle.cam_event.specs.Pasts.{plain_all}
use Rattle.cam_event.specs.Views.{view}
use Rattle.cam_event.specs.Values.{HasValues}
use Rattle.cam_event.proofs.viewing.view.Given as goal

abbrev pub invariant-loop-event : goal.invariant-loop-event
invariant-loop-event l = record {
  values : HasValues (plain_all (reverse (take l.event-index l.event-items))) l.values;
  steps : l.steps ≡ view (plain_all (reverse (take l.event-index l.event-items))) l.name;
}
