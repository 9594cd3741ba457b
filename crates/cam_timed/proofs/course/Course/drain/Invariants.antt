use Rattle.cam_timed.proofs.CourseDrains.{HasDrainedSome, course_weight}
use Rattle.cam_timed.proofs.course.Course.drain.Given as goal

abbrev pub invariant-loop-place : goal.invariant-loop-place
invariant-loop-place l = HasDrainedSome l.objects l.fn.self l.self

abbrev pub decreases-loop-place : goal.decreases-loop-place
decreases-loop-place l = course_weight l.self
