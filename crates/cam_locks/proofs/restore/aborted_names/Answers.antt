use Rattle.cam_know.specs.Known.{aborted_name}
use Rattle.cam_locks.proofs.RestoredLists.{names_further}
use Rattle.cam_locks.proofs.restore.aborted_names.Goals as goal

pub loop-outcome-preserved : goal.loop-outcome-preserved
loop-outcome-preserved c =
    names_further aborted_name c.args.outcomes.now c.loop-outcome.outcome-index c.outcome-item.result c.loop-outcome.names.names c.add_if_aborted.new.names.names
    c.loop-outcome-test.true c.outcome-item.is c.in_ok-add_if_aborted.ensures c.loop-outcome.invariant
