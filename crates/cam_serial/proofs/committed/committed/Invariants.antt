use Rattle.std.proofs.Common.{take}
use Rattle.cam_plain.specs.Legal.{history}
use Rattle.cam_serial.specs.Gathered.{TellsCommitted}
use Rattle.cam_serial.proofs.committed.committed.Given as goal

abbrev pub invariant-loop-deed : goal.invariant-loop-deed
invariant-loop-deed l = TellsCommitted (history (take l.deed-index l.deeds)) l.names
