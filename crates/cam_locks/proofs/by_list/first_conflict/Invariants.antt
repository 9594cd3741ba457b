use Rattle.std.proofs.Common.{◌≡◌, take, None}
use Rattle.std.specs.Prelude.{find}
use Rattle.cam_locks.specs.Moss.{conflicts_on}
use Rattle.cam_locks.proofs.by_list.first_conflict.Given as goal

abbrev pub invariant-loop-operation : goal.invariant-loop-operation
invariant-loop-operation l = None ≡ find (conflicts_on l.committed.names l.asked.action l.asked.object l.asked.op) (take l.operation-index l.live)
