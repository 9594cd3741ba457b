-- The value that is handed up is that of each history that the node represents.
use Rattle.std.proofs.Common.{◌≡◌, IfOk, subst}
use Rattle.cam_locks.specs.Moss.{settled}
use Rattle.cam_locks.specs.Site.{TableView}
use Rattle.cam_node.specs.Calls.{answers}
use Rattle.cam_node.proofs.Values.{value_by_history}
use Rattle.cam_node.proofs.node.Node.value.Goals as goal

pub returns-clause-history : goal.returns-clause-history
returns-clause-history g c =
    value_by_history c.args.self.now.objects (answers c.args.self.now.core) c.args.object
    c.value.result
    (subst (λ (table : TableView). IfOk c.value.result
    (λ state. state ≡ settled table.site c.args.object)) c.table.ensures c.value.ensures)
