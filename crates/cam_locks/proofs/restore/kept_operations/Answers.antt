use Rattle.cam_locks.proofs.RestoredLists.{kept_further}
use Rattle.cam_locks.proofs.restore.kept_operations.Goals as goal

pub loop-family-preserved : goal.loop-family-preserved
loop-family-preserved c =
    kept_further c.args.know.now c.args.held.now c.loop-family.family-index c.family-item.result c.loop-family.kept c.keep_family.new.kept
    c.loop-family-test.true c.family-item.is c.loop-family.invariant (c.in_ok-keep_family.ensures)
