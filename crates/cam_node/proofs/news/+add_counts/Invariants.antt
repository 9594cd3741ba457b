use Rattle.std.proofs.Common.{◌-◌}
use Rattle.cam_node.proofs.news.+add_counts.Given as goal

abbrev pub decreases-add_counts : goal.decreases-add_counts
decreases-add_counts l = 9 - l.node
