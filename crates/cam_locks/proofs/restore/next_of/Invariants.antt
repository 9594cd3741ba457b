use Rattle.std.proofs.Common.{◌≡◌, ◌≤◌, take}
use Rattle.cam_locks.specs.Restored.{next_of, all_held}
use Rattle.cam_locks.proofs.restore.next_of.Given as goal

abbrev pub invariant-loop-family : goal.invariant-loop-family
invariant-loop-family l = (l.next ≡ next_of (all_held (take l.family-index l.held))) × (l.next ≤ 1000000000)
