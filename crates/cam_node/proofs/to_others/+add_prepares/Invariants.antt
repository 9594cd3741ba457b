use Rattle.std.proofs.Common.{◌-◌}
use Rattle.cam_node.proofs.to_others.+add_prepares.Given as goal

abbrev pub decreases-add_prepares : goal.decreases-add_prepares
decreases-add_prepares l = 9 - l.node
