use Rattle.cam_timed.specs.declared.TimedAct.TheVariants.{Begin}
use Rattle.cam_timed.proofs.CourseRuns.{goes_on, may_take, starts}
use Rattle.cam_timed.proofs.run.timed.Goals as goal

pub loop-step-init : goal.loop-step-init
loop-step-init c = starts c.args.script.now c.in_ok-course.course c.in_ok-course.ensures

pub take-requires-clause-may : goal.take-requires-clause-may
take-requires-clause-may c =
    may_take c.args.script.now c.requires c.as_slice-step-items.result.now
    c.as_slice-step-items.ensures c.loop-step.step-index (record { line = 0; act = Begin 0 0 })
    c.loop-step-test.true c.loop-step.course c.loop-step.invariant

pub loop-step-preserved : goal.loop-step-preserved
loop-step-preserved c =
    goes_on c.args.script.now c.requires c.as_slice-step-items.result.now
    c.as_slice-step-items.ensures c.loop-step.step-index (record { line = 0; act = Begin 0 0 })
    c.loop-step-test.true c.loop-step.course c.loop-step.invariant c.take.new.self
    c.in_ok-take.ensures
