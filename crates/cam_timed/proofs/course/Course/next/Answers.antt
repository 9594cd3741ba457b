use Rattle.std.proofs.Common.{◌<◌, ◌≤◌, length, sym, ◌∙◌, arith}
use Rattle.cam_timed.specs.TimedRunning.{letters}
use Rattle.cam_timed.proofs.CourseLetters.{first_on}
use Rattle.cam_timed.proofs.CourseWaiting.{none_waits, one_waits}
use Rattle.cam_timed.proofs.course.Course.next.Goals as goal
use Rattle.cam_timed.proofs.course.Course.next.Goals.{then-loop-self-test+else-is_out, else-loop-self-test}

pub loop-self-preserved : goal.loop-self-preserved
loop-self-preserved c = λ objects r keeps.
    let so_far = c.loop-self.invariant objects r keeps in (
      first_on objects r c.loop-self.self so_far.0
          (sym (c.is_out.ensures objects r so_far.0) ∙ c.if-is_out.true),
      so_far.1,
    )

pub returns-then-self-count-clause-waits : goal.returns-then-self-count-clause-waits
returns-then-self-count-clause-waits c = λ objects r keeps.
    let so_far = c.loop-self.invariant objects r keeps in
    let there : c.loop-self.self.first < length (letters r.trace) =
    omega (arith, so_far.1, c.if-self-count.true) in
    elim c.loop-self-test.branch [
      | then-loop-self-test+else-is_out w ↦
          one_waits r c.loop-self.self.first so_far.0.first there
          (sym (w.is_out.ensures objects r so_far.0) ∙ w.if-is_out.false)
      | else-loop-self-test w ↦
          absurd (omega (arith, w.loop-self-test.false, c.if-self-count.true))
    ]

pub returns-then-self-count-clause-same : goal.returns-then-self-count-clause-same
returns-then-self-count-clause-same c = λ objects r keeps.
    (c.loop-self.invariant objects r keeps).0

pub returns-else-self-count-clause-waits : goal.returns-else-self-count-clause-waits
returns-else-self-count-clause-waits c = λ objects r keeps.
    let so_far = c.loop-self.invariant objects r keeps in
    let past : length (letters r.trace) ≤ c.loop-self.self.first =
    omega (arith, so_far.1, c.if-self-count.false) in
    none_waits r c.loop-self.self.first so_far.0.first past

pub returns-else-self-count-clause-same : goal.returns-else-self-count-clause-same
returns-else-self-count-clause-same c = λ objects r keeps.
    (c.loop-self.invariant objects r keeps).0
