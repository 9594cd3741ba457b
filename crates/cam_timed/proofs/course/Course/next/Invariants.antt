use Rattle.std.proofs.Common.{◌≡◌, ◌-◌, List, length}
use Rattle.cam_type.specs.declared.ObjectDecl.{ObjectDecl}
use Rattle.cam_timed.specs.Courses.{KeepsRunning}
use Rattle.cam_timed.specs.TimedRunning.{TimedRunning, letters}
use Rattle.cam_timed.proofs.course.Course.next.Given as goal

abbrev pub invariant-loop-self : goal.invariant-loop-self
invariant-loop-self l =
    (objects : List ObjectDecl) (r : TimedRunning) → KeepsRunning objects r l.fn.self
    → KeepsRunning objects r l.self × (l.count ≡ length (letters r.trace))

abbrev pub decreases-loop-self : goal.decreases-loop-self
decreases-loop-self l = l.count - l.self.first
