use Rattle.std.proofs.Common.{take}
use Rattle.cam_serial.specs.Gathered.{TellsGroups}
use Rattle.cam_serial.proofs.groups.grouped.Given as goal

abbrev pub invariant-loop-operation : goal.invariant-loop-operation
invariant-loop-operation l = TellsGroups l.committed (take l.operation-index l.operations) l.groups
