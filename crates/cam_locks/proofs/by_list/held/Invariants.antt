use Rattle.std.proofs.Common.{◌≡◌, take}
use Rattle.std.specs.Prelude.{filter}
use Rattle.std.specs.Prelude.{map}
use Rattle.cam_locks.specs.Calls.{is_of, held_op}
use Rattle.cam_locks.proofs.by_list.held.Given as goal

abbrev pub invariant-loop-operation : goal.invariant-loop-operation
invariant-loop-operation l = l.ops ≡ map held_op (filter (is_of l.family) (take l.operation-index l.live))
