use Rattle.std.proofs.Common.{◌≡◌, take}
use Rattle.std.specs.Prelude.{filter, not}
use Rattle.cam_locks.specs.Calls.{is_dropped_by}
use Rattle.cam_locks.proofs.by_list.left.Given as goal

abbrev pub invariant-loop-operation : goal.invariant-loop-operation
invariant-loop-operation l = l.left ≡ filter (λ o. not (is_dropped_by l.news o)) (take l.operation-index l.live)
