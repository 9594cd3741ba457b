-- The order is kept.
use Rattle.cam_node.proofs.InOrder.{nothing_in_order, dropping_in_order}
use Rattle.cam_node.proofs.SecuringOrder.{securing_in_order}
use Rattle.cam_node.proofs.CallOrder.{calls_keep_order}
use Rattle.cam_node.proofs.Crashing.{restart_in_order}
use Rattle.cam_node.proofs.order.orders_are_kept.Goals as goal

pub returns-clause-nothing : goal.returns-clause-nothing
returns-clause-nothing c = nothing_in_order

pub returns-clause-dropping : goal.returns-clause-dropping
returns-clause-dropping c = dropping_in_order

pub returns-clause-securing : goal.returns-clause-securing
returns-clause-securing c = securing_in_order

pub returns-clause-call : goal.returns-clause-call
returns-clause-call c = calls_keep_order

pub returns-clause-restart : goal.returns-clause-restart
returns-clause-restart c = restart_in_order
