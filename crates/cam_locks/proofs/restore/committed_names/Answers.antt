use Rattle.cam_know.specs.Known.{committed_name}
use Rattle.cam_locks.proofs.RestoredLists.{names_further}
use Rattle.cam_locks.proofs.restore.committed_names.Goals as goal

pub loop-outcome-preserved : goal.loop-outcome-preserved
loop-outcome-preserved c =
    names_further committed_name c.args.outcomes.now c.loop-outcome.outcome-index c.outcome-item.result c.loop-outcome.names.names c.add_if_committed.new.names.names
    c.loop-outcome-test.true c.outcome-item.is c.in_ok-add_if_committed.ensures c.loop-outcome.invariant
