use Rattle.std.proofs.Common.{◌≡◌, take}
use Rattle.cam_plain.specs.Legal.{history}
use Rattle.cam_serial.specs.Gathered.{joined}
use Rattle.cam_serial.proofs.list.joined.Given as goal

abbrev pub invariant-loop-deed : goal.invariant-loop-deed
invariant-loop-deed l = l.list ≡ joined l.groups (history (take l.deed-index l.deeds))
