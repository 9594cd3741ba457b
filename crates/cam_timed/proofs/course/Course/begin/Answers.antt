use Rattle.cam_event.specs.Inputs.{Begins}
use Rattle.cam_timed.specs.declared.course.Course.{Course}
use Rattle.cam_timed.specs.Courses.{KeepsRunning}
use Rattle.cam_timed.specs.TimedRefusals.{begin_refusal}
use Rattle.cam_timed.specs.TimedRules.{WithoutTime}
use Rattle.cam_timed.specs.TimedRunning.{TimedRunning, by_time, with_event}
use Rattle.cam_timed.specs.TimedScripts.{named_in, newest_deeds}
use Rattle.cam_timed.proofs.CourseLines.{led_so, named_so, with_input}
use Rattle.cam_timed.proofs.course.Course.begin.Goals as goal

pub returns : goal.returns
returns c = λ r keeps.
    let running : TimedRunning =
    with_event (by_time c.args.objects.now) r (WithoutTime (Begins c.args.node) c.args.until) in
    let new : Course = record c.args.self.now { machine = c.step.new.self } in
    let stands : KeepsRunning c.args.objects.now running new =
    with_input c.args.objects.now r c.args.self.now keeps c.step.new.self
    (WithoutTime (Begins c.args.node) c.args.until) c.in_ok-step.ensures in
    led_so c.args.objects.now r c.args.self.now keeps
    (begin_refusal r.trace c.args.node c.args.until) running (named_in (newest_deeds running.trace))
    c.named.result new (c.in_default.ensures c.args.objects.now r.trace keeps.machine)
    (named_so c.args.objects.now running new c.named.result stands c.named.ensures) stands
