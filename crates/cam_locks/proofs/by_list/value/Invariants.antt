use Rattle.std.proofs.Common.{◌≡◌, take}
use Rattle.std.specs.Prelude.{filter}
use Rattle.cam_locks.specs.Moss.{is_on}
use Rattle.cam_locks.proofs.by_list.value.Given as goal

abbrev pub invariant-loop-operation : goal.invariant-loop-operation
invariant-loop-operation l = l.operations ≡ filter (is_on l.object) (take l.operation-index l.live)
