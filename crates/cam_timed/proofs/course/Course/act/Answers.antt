use Rattle.std.proofs.Common.{ℤ, IfOk, arith, subst, sym, w64}
use Rattle.std.proofs.lemmas.Int.{to_z-of_z}
use Rattle.cam_event.specs.declared.Want.TheVariants as wants
use Rattle.cam_timed.specs.declared.TimedAct.{TimedAct}
use Rattle.cam_timed.specs.Courses.{IsLine}
use Rattle.cam_timed.specs.TimedRunning.{by_time}
use Rattle.cam_timed.specs.TimedScripts.{of_variable, take_request, timed_act, variable}
use Rattle.cam_timed.proofs.course.Course.act.Goals as goal

pub returns-in-Call : goal.returns-in-Call
returns-in-Call c =
    subst (λ (act : TimedAct). IfOk c.request.result (IsLine c.args.objects.now
    (λ r. timed_act (by_time c.args.objects.now) r act) c.args.self.now c.request.new.self))
    (sym c.in-Call.is) c.request.ensures

pub returns-in-Commit : goal.returns-in-Commit
returns-in-Commit c =
    subst (λ (act : TimedAct). IfOk c.request-in-Commit.result (IsLine c.args.objects.now
    (λ r. timed_act (by_time c.args.objects.now) r act) c.args.self.now
    c.request-in-Commit.new.self))
    (sym c.in-Commit.is)
    (subst (λ (v : ℤ). IfOk c.request-in-Commit.result (IsLine c.args.objects.now
    (λ r. of_variable (variable r c.in-Commit.action)
    (λ a. take_request (by_time c.args.objects.now) r a (wants.Commit v)))
    c.args.self.now c.request-in-Commit.new.self))
    (to_z-of_z w64 c.in-Commit.value (omega arith))
    c.request-in-Commit.ensures)
