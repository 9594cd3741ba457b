use Rattle.std.proofs.Common.{◌≡◌, take}
use Rattle.std.specs.List.{flat_map}
use Rattle.cam_report.proofs.deeds.deeds_of.Given as goal

abbrev pub invariant-loop-event : goal.invariant-loop-event
invariant-loop-event l = l.deeds ≡ flat_map (λ event. event.deeds) (take l.event-index l.event-items)
