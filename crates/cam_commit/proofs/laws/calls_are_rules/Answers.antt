use Rattle.cam_commit.proofs.Sights.{sight_is_answered}
use Rattle.cam_commit.proofs.RuleCalls.{top_finish_is_rule, top_quit_is_rule, asked_is_rule, voted_is_rule, queried_is_rule}
use Rattle.cam_commit.proofs.laws.calls_are_rules.Goals as goal

pub returns-clause-sight : goal.returns-clause-sight
returns-clause-sight c = sight_is_answered

pub returns-clause-finish : goal.returns-clause-finish
returns-clause-finish c = top_finish_is_rule

pub returns-clause-quit : goal.returns-clause-quit
returns-clause-quit c = top_quit_is_rule

pub returns-clause-asked : goal.returns-clause-asked
returns-clause-asked c = asked_is_rule

pub returns-clause-voted : goal.returns-clause-voted
returns-clause-voted c = voted_is_rule

pub returns-clause-queried : goal.returns-clause-queried
returns-clause-queried c = queried_is_rule
