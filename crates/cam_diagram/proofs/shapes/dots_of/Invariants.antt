use Rattle.std.proofs.Common.{◌≡◌, map, take}
use Rattle.cam_diagram.specs.Picture.{dot}
use Rattle.cam_diagram.proofs.shapes.dots_of.Given as goal

abbrev pub invariant-loop-event : goal.invariant-loop-event
invariant-loop-event l = l.dots ≡ map dot (take l.event-index l.event-items)
