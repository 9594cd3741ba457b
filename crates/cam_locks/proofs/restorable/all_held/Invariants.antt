use Rattle.std.proofs.Common.{◌≡◌, take}
use Rattle.cam_locks.specs.Restored.{all_held}
use Rattle.cam_locks.proofs.restorable.all_held.Given as goal

abbrev pub invariant-loop-one : goal.invariant-loop-one
invariant-loop-one l = l.ops ≡ all_held (take l.one-index l.held)
