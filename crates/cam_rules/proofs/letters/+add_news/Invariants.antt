use Rattle.std.proofs.Common.{◌-◌}
use Rattle.cam_rules.proofs.letters.+add_news.Given as goal

abbrev pub decreases-add_news : goal.decreases-add_news
decreases-add_news l = 9 - l.node
