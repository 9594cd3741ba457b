use Rattle.std.proofs.Common.{◌≡◌, ◌++◌, take}
use Rattle.cam_serial.specs.Gathered.{seen_of}
use Rattle.cam_serial.proofs.list.add_seen.Given as goal

abbrev pub invariant-loop-operation : goal.invariant-loop-operation
invariant-loop-operation l = l.list ≡ l.initial.list ++ seen_of l.committed l.action (take l.operation-index l.operations)
