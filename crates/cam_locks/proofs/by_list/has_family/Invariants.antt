use Rattle.std.proofs.Common.{◌≡◌, false, take}
use Rattle.std.specs.List.{list_any}
use Rattle.cam_locks.specs.Calls.{is_of}
use Rattle.cam_locks.proofs.by_list.has_family.Given as goal

abbrev pub invariant-loop-operation : goal.invariant-loop-operation
invariant-loop-operation l = list_any (is_of l.family) (take l.operation-index l.live) ≡ false
