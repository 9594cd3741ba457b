use Rattle.cam_tranman.proofs.Sights.{sight_is_answered}
use Rattle.cam_tranman.proofs.Requests.{begun_is_rule, refusal_is_rule}
use Rattle.cam_tranman.proofs.RuleCalls.{wanted_is_rule, started_is_rule, taken_is_rule, finish_is_rule, quit_is_rule, deps_are_the_rules, child_is_no_top, given_up_is_no_top}
use Rattle.cam_tranman.proofs.calls_are_rules.Goals as goal

pub returns-clause-sight : goal.returns-clause-sight
returns-clause-sight c = sight_is_answered

pub returns-clause-begin : goal.returns-clause-begin
returns-clause-begin c = begun_is_rule

pub returns-clause-refusal : goal.returns-clause-refusal
returns-clause-refusal c = refusal_is_rule

pub returns-clause-request : goal.returns-clause-request
returns-clause-request c = wanted_is_rule

pub returns-clause-start : goal.returns-clause-start
returns-clause-start c = started_is_rule

pub returns-clause-answer : goal.returns-clause-answer
returns-clause-answer c = taken_is_rule

pub returns-clause-finish : goal.returns-clause-finish
returns-clause-finish c = finish_is_rule

pub returns-clause-quit : goal.returns-clause-quit
returns-clause-quit c = quit_is_rule

pub returns-clause-deps : goal.returns-clause-deps
returns-clause-deps c = deps_are_the_rules

pub returns-clause-child : goal.returns-clause-child
returns-clause-child c = child_is_no_top

pub returns-clause-given_up : goal.returns-clause-given_up
returns-clause-given_up c = given_up_is_no_top
