use Rattle.std.proofs.Common.{◌≡◌, take, drop}
use Rattle.cam_locks.specs.Site.{IndicesRise}
use Rattle.cam_locks.proofs.live.Live.copy.Given as goal

abbrev pub invariant-loop-operation : goal.invariant-loop-operation
invariant-loop-operation l =
    (l.copy.ops ≡ take l.operation-index l.operation-items)
    × IndicesRise l.copy.next (drop l.operation-index l.operation-items) l.self.next
