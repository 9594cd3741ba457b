use Rattle.std.proofs.Common.{◌≡◌, ◌+◌, length}
use Rattle.cam_know.specs.Known.{lift_by}
use Rattle.cam_locks.specs.Names.{has_name}
use Rattle.cam_locks.proofs.names.Names.lift.Given as goal

abbrev pub invariant-loop : goal.invariant-loop
invariant-loop l =
    (lift_by (has_name l.self.names) l.present ≡ lift_by (has_name l.self.names) l.name)
    × (length l.present + l.counter ≡ length l.name + 1)
