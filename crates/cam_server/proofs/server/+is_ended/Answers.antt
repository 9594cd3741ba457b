-- The commit of the action itself is known, or that of an ancestor of the parent, or none.
use Rattle.std.proofs.Common.{sym, ◌∙◌}
use Rattle.cam_know.specs.Known.{knows_commit}
use Rattle.cam_server.proofs.Ended.{any_here, any_rest}
use Rattle.cam_server.proofs.server.+is_ended.Goals as goal

pub returns-then-is_committed : goal.returns-then-is_committed
returns-then-is_committed t c =
    c.if-is_committed.true
    ∙ any_here (knows_commit c.args.know.now) c.args.action.now c.in-Some.parent c.in-Some.ensures.value (sym c.is_committed-in-Some.ensures ∙ c.if-is_committed.true)

pub returns-else-is_committed : goal.returns-else-is_committed
returns-else-is_committed t c =
    c.is_ended.ensures
    ∙ any_rest (knows_commit c.args.know.now) c.args.action.now c.in-Some.parent c.in-Some.ensures.value (sym c.is_committed-in-Some.ensures ∙ c.if-is_committed.false)
