-- The list has the deeds so far.
use Rattle.std.proofs.Common.{◌≡◌, take}
use Rattle.cam_samples.proofs.events.deeds_of.Given as goal

abbrev pub invariant-loop-deed : goal.invariant-loop-deed
invariant-loop-deed l = l.list ≡ take l.deed-index l.deeds
