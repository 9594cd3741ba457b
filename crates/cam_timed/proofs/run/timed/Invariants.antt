use Rattle.cam_timed.proofs.CourseRuns.{CourseAt}
use Rattle.cam_timed.proofs.run.timed.Given as goal

abbrev pub invariant-loop-step : goal.invariant-loop-step
invariant-loop-step l = CourseAt l.script l.step-index l.course
