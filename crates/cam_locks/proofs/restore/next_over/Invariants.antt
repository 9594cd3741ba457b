use Rattle.std.proofs.Common.{◌≡◌, ◌≤◌, max, take}
use Rattle.cam_locks.specs.Restored.{next_of}
use Rattle.cam_locks.proofs.restore.next_over.Given as goal

abbrev pub invariant-loop-op : goal.invariant-loop-op
invariant-loop-op l = (l.next ≡ max l.first (next_of (take l.op-index l.ops))) × (l.next ≤ 1000000000)
