use Rattle.std.proofs.Common.{◌≡◌, reverse, take}
use Rattle.cam_draw.specs.Stubs.{stubs}
use Rattle.cam_draw.proofs.stubs.stubs_of.Given as goal

abbrev pub invariant-loop-letter : goal.invariant-loop-letter
invariant-loop-letter l = l.stubs ≡ stubs l.trace l.light (reverse (take l.letter-index l.letter-items))
