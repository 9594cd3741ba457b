-- The order is kept where a planned event stands.
use Rattle.cam_node.proofs.PlanOrder.{plans_keep_order}
use Rattle.cam_node.proofs.order.plans_keep_order.Goals as goal

pub returns : goal.returns
returns c = plans_keep_order
