use Rattle.cam_locks.proofs.Replays.{replay_further}
use Rattle.cam_locks.proofs.operations.replay.Goals as goal

pub loop-operation-preserved : goal.loop-operation-preserved
loop-operation-preserved c =
    replay_further c.args.state c.loop-operation.state c.apply.new.state c.args.operations.now
    c.loop-operation.operation-index c.operation-item.result c.loop-operation-test.true c.operation-item.is c.loop-operation.invariant c.in_ok-apply.ensures.after
