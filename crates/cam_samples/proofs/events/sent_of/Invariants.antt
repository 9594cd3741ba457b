-- The list has the letters so far.
use Rattle.std.proofs.Common.{◌≡◌, take}
use Rattle.cam_samples.proofs.events.sent_of.Given as goal

abbrev pub invariant-loop-letter : goal.invariant-loop-letter
invariant-loop-letter l = l.list ≡ take l.letter-index l.letters
