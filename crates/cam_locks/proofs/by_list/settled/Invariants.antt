use Rattle.std.proofs.Common.{◌≡◌, take}
use Rattle.std.specs.Prelude.{filter}
use Rattle.cam_locks.specs.Moss.{is_settled_on}
use Rattle.cam_locks.proofs.by_list.settled.Given as goal

abbrev pub invariant-loop-operation : goal.invariant-loop-operation
invariant-loop-operation l = l.operations ≡ filter (is_settled_on l.committed.names l.object) (take l.operation-index l.live)
