use Rattle.std.proofs.Common.{◌≡◌, drop}
use Rattle.cam_draw.specs.Surroundings.{next_from}
use Rattle.cam_draw.proofs.halts.next_event.Given as goal

abbrev pub invariant-loop-number : goal.invariant-loop-number
invariant-loop-number l = next_from l.node l.above l.number (drop l.number l.events) ≡ next_from l.node l.above 0 l.events
