use Rattle.std.proofs.Common.{take}
use Rattle.cam_locks.specs.Names.{AreKeys}
use Rattle.cam_locks.proofs.names.keys_of.Given as goal

abbrev pub invariant-loop-name : goal.invariant-loop-name
invariant-loop-name l = AreKeys l.keys.keys (take l.name-index l.names)
