use Rattle.std.proofs.Common.{◌∙◌, sym}
use Rattle.cam_timed.proofs.CourseLines.{query_led, query_refused}
use Rattle.cam_timed.proofs.course.Course.query.Goals as goal

pub returns-in-Some-query_refusal : goal.returns-in-Some-query_refusal
returns-in-Some-query_refusal c = λ r keeps.
    query_refused c.args.objects.now r c.args.self.now keeps c.args.node c.args.action
    c.in-Some.action c.family-family.result c.in-Some.ensures c.family-family.ensures
    c.in-Some-query_refusal.refusal (sym c.in-Some-query_refusal.is ∙ c.query_refusal.ensures)

pub returns : goal.returns
returns c = λ r keeps.
    query_led c.args.objects.now r c.args.self.now keeps c.args.node c.args.action
    c.in-Some.action c.family-family.result c.in-Some.ensures c.family-family.ensures c.step.new.self
    (sym c.in_default-query_refusal.is ∙ c.query_refusal.ensures) c.in_ok-step.ensures
