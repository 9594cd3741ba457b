use Rattle.std.proofs.Common.{Bool, if◌then◌else◌, Some, None, ap, ne_eqb, refl, sym}
use Rattle.cam_event.specs.declared.LineRefusal.TheVariants as refusals
use Rattle.cam_event.specs.Inputs.{Tells}
use Rattle.cam_event.specs.Refusals.{tell_refusal}
use Rattle.cam_timed.specs.TimedRefusals.{untimed}
use Rattle.cam_timed.specs.TimedRules.{WithoutTime}
use Rattle.cam_timed.specs.TimedRunning.{by_time, with_event}
use Rattle.cam_timed.proofs.CourseLines.{led_so, with_input}
use Rattle.cam_timed.proofs.course.Course.tell.Goals as goal

pub returns : goal.returns
returns c = λ r keeps.
    led_so c.args.objects.now r c.args.self.now keeps
    (untimed (tell_refusal c.args.node c.args.to) None)
    (with_event (by_time c.args.objects.now) r (WithoutTime (Tells c.args.node c.args.to) 0)) None None
    (record c.args.self.now { machine = c.step.new.self })
    (sym (ap (λ (b : Bool). untimed (if b then Some refusals.NothingToDo else None) None)
    (ne_eqb c.args.node c.args.to c.if-node-to.false)))
    refl
    (with_input c.args.objects.now r c.args.self.now keeps c.step.new.self
    (WithoutTime (Tells c.args.node c.args.to) 0) c.in_ok-step.ensures)
