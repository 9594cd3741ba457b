use Rattle.std.proofs.Common.{◌≡◌, reverse, take}
use Rattle.cam_draw.specs.Surroundings.{above}
use Rattle.cam_draw.proofs.halts.events_above.Given as goal

abbrev pub invariant-loop-number : goal.invariant-loop-number
invariant-loop-number l = l.above ≡ above l.node l.line (reverse (take l.number l.events))
