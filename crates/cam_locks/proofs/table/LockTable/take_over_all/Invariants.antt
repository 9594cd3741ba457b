use Rattle.std.proofs.Common.{◌≡◌, ◌++◌, take, drop}
use Rattle.cam_locks.specs.Site.{IndicesRise}
use Rattle.cam_locks.proofs.table.LockTable.take_over_all.Given as goal

abbrev pub invariant-loop-operation : goal.invariant-loop-operation
invariant-loop-operation l =
    (l.self.site ≡ record l.initial.self.site { live = l.initial.self.site.live ++ take l.operation-index l.operations; next = l.self.site.next })
    × IndicesRise l.self.site.next (drop l.operation-index l.operations) l.next
