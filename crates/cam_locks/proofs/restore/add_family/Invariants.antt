use Rattle.std.proofs.Common.{◌≡◌, take, ◌++◌}
use Rattle.std.specs.Prelude.{map}
use Rattle.cam_locks.specs.Restored.{of_family}
use Rattle.cam_locks.proofs.restore.add_family.Given as goal

abbrev pub invariant-loop-op : goal.invariant-loop-op
invariant-loop-op l = l.kept ≡ l.initial.kept ++ map (of_family l.family) (take l.op-index l.ops)
