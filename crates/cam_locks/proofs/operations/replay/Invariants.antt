use Rattle.std.proofs.Common.{◌≡◌, take}
use Rattle.cam_locks.specs.Moss.{replay}
use Rattle.cam_locks.proofs.operations.replay.Given as goal

abbrev pub invariant-loop-operation : goal.invariant-loop-operation
invariant-loop-operation l = l.state ≡ replay l.fn.state (take l.operation-index l.operations)
