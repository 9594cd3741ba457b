use Rattle.std.proofs.Common.{◌∙◌, sym}
use Rattle.cam_locks.specs.Moss.{conflicts_on}
use Rattle.cam_locks.proofs.Lists.{find_none, find_some}
use Rattle.cam_locks.proofs.by_list.first_conflict.Goals as goal

pub returns-then-is_conflict : goal.returns-then-is_conflict
returns-then-is_conflict c =
    find_some (conflicts_on c.args.committed.now.names c.args.asked.now.action c.args.asked.now.object c.args.asked.now.op)
    c.args.live.now c.loop-operation.operation-index c.operation-item.result c.loop-operation-test.true
    c.operation-item.is c.loop-operation.invariant (sym c.is_conflict.ensures ∙ c.if-is_conflict.true)

pub loop-operation-preserved : goal.loop-operation-preserved
loop-operation-preserved c =
    find_none (conflicts_on c.args.committed.now.names c.args.asked.now.action c.args.asked.now.object c.args.asked.now.op)
    c.args.live.now c.loop-operation.operation-index c.operation-item.result c.loop-operation-test.true
    c.operation-item.is c.loop-operation.invariant (sym c.is_conflict.ensures ∙ c.if-is_conflict.false)
