use Rattle.std.proofs.Common.{◌≡◌, map, take}
use Rattle.cam_locks.specs.Holding.{fresh}
use Rattle.cam_locks.proofs.by_object.for_objects.Given as goal

abbrev pub invariant-loop-declared : goal.invariant-loop-declared
invariant-loop-declared l = l.locks.items ≡ map (λ d. fresh d.start) (take l.declared-index l.declared-items)
