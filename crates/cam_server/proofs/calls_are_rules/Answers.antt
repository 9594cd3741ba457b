use Rattle.cam_server.proofs.RuleCalls.{performed_is_rule, sight_is_answered}
use Rattle.cam_server.proofs.calls_are_rules.Goals as goal

pub returns-clause-perform : goal.returns-clause-perform
returns-clause-perform c = performed_is_rule

pub returns-clause-sight : goal.returns-clause-sight
returns-clause-sight c = sight_is_answered
