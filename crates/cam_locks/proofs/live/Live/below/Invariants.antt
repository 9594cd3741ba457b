use Rattle.std.proofs.Common.{length}
use Rattle.std.specs.Prelude.{filter}
use Rattle.cam_locks.proofs.NextBelow.{IsFoundBelow, late}
use Rattle.cam_locks.proofs.live.Live.below.Given as goal

abbrev pub invariant-loop-operation : goal.invariant-loop-operation
invariant-loop-operation l = IsFoundBelow l.self.ops l.name l.start l.found.items

abbrev pub decreases-loop-operation : goal.decreases-loop-operation
decreases-loop-operation l = length (filter (late l.start) l.self.ops)
