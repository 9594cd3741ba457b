use Rattle.std.proofs.Common.{◌≡◌, take, reverse}
use Rattle.cam_diagram.specs.Picture.{arrows}
use Rattle.cam_diagram.proofs.shapes.arrows_of.Given as goal

abbrev pub invariant-loop-number : goal.invariant-loop-number
invariant-loop-number l = l.arrows ≡ arrows l.trace (reverse (take l.number l.trace))
