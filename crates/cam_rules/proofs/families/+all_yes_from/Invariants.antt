use Rattle.std.proofs.Common.{◌-◌}
use Rattle.cam_rules.proofs.families.+all_yes_from.Given as goal

abbrev pub decreases-all_yes_from : goal.decreases-all_yes_from
decreases-all_yes_from g l = 9 - l.node
