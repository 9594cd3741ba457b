use Rattle.std.proofs.Common.{arith}
use Rattle.std.proofs.lemmas.Grind.{common_steps}
use Rattle.std.proofs.lemmas.List.Elements.{filter-append}
use Rattle.cam_locks.proofs.by_list.left.Goals as goal

pub loop-operation-preserved : goal.loop-operation-preserved
loop-operation-preserved c = grind (arith, common_steps, filter-append)
