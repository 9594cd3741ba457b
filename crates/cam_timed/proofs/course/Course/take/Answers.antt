use Rattle.std.proofs.Common.{◌++◌, ◌∷◌, [], ap, subst, ◌∙◌}
use Rattle.cam_timed.specs.Courses.{IsLineOutcome}
use Rattle.cam_timed.specs.TimedRunning.{by_time}
use Rattle.cam_timed.specs.TimedScripts.{timed_act}
use Rattle.cam_timed.proofs.CourseLines.{led_line, refused_line}
use Rattle.cam_timed.proofs.course.Course.take.Goals as goal

pub returns-in_ok-push_copy-in-Refused-2 : goal.returns-in_ok-push_copy-in-Refused-2
returns-in_ok-push_copy-in-Refused-2 c = λ r keeps.
    refused_line c.args.objects.now r c.args.step.now.line
    (timed_act (by_time c.args.objects.now) r c.args.step.now.act) c.act.new.self
    c.in-Refused.refusal c.push_copy.new.self c.push_copy-in-Refused.new.self
    (subst (λ taken. IsLineOutcome c.args.objects.now r
    (timed_act (by_time c.args.objects.now) r c.args.step.now.act) c.act.new.self taken)
    c.in-Refused.is (c.in_ok-refusal.ensures r keeps))
    (c.in_ok-push_copy-in-Refused.ensures.ok
    ∙ ap (λ m. c.act.new.self.marks ++ m ∷ []) c.mark_of.ensures)
    c.in_ok-push_copy-in-Refused-2.ensures.ok

pub returns-in_ok-push_copy-in-GoesOn : goal.returns-in_ok-push_copy-in-GoesOn
returns-in_ok-push_copy-in-GoesOn c = λ r keeps.
    led_line c.args.objects.now r c.args.step.now.line
    (timed_act (by_time c.args.objects.now) r c.args.step.now.act) c.act.new.self c.in-GoesOn.binds
    c.push_copy-in-GoesOn.new.self
    (subst (λ taken. IsLineOutcome c.args.objects.now r
    (timed_act (by_time c.args.objects.now) r c.args.step.now.act) c.act.new.self taken)
    c.in-GoesOn.is (c.in_ok-refusal.ensures r keeps))
    c.in_ok-push_copy-in-GoesOn.ensures.ok
