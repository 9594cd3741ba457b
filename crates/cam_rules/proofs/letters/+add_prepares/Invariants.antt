use Rattle.std.proofs.Common.{◌-◌}
use Rattle.cam_rules.proofs.letters.+add_prepares.Given as goal

abbrev pub decreases-add_prepares : goal.decreases-add_prepares
decreases-add_prepares l = 9 - l.node
