-- The value of an object is that by a node's history.
use Rattle.cam_node.proofs.Values.{values_are_met}
use Rattle.cam_node.proofs.values_are_met.Goals as goal

pub returns : goal.returns
returns c = values_are_met
