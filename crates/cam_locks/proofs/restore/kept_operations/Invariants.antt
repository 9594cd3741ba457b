use Rattle.std.proofs.Common.{◌≡◌, take}
use Rattle.std.specs.Prelude.{flat_map}
use Rattle.cam_locks.specs.Restored.{ops_of}
use Rattle.cam_locks.proofs.restore.kept_operations.Given as goal

abbrev pub invariant-loop-family : goal.invariant-loop-family
invariant-loop-family l = l.kept ≡ flat_map (ops_of l.know) (take l.family-index l.held)
