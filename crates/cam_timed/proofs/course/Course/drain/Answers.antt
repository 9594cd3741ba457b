use Rattle.std.proofs.Common.{refl}
use Rattle.cam_timed.proofs.CourseDrains.{all_drained, drained_lower, drained_more, still_some}
use Rattle.cam_timed.proofs.CourseLetters.{there_is}
use Rattle.cam_timed.proofs.course.Course.drain.Goals as goal

pub hand_over-requires-clause-some : goal.hand_over-requires-clause-some
hand_over-requires-clause-some c =
    let some =
    still_some c.args.objects.now c.args.self.now c.loop-place.self c.loop-place.invariant
    c.requires.some in
    (some.0, c.next.ensures.same c.args.objects.now some.0 some.1)

pub hand_over-requires-clause-place : goal.hand_over-requires-clause-place
hand_over-requires-clause-place c =
    let some =
    still_some c.args.objects.now c.args.self.now c.loop-place.self c.loop-place.invariant
    c.requires.some in
    let at = c.in-Some.ensures.waits c.args.objects.now some.0 some.1 in
    there_is c.args.objects.now some.0 c.next.new.self
    (c.next.ensures.same c.args.objects.now some.0 some.1) c.in-Some.place at.0 at.1

pub loop-place-smaller : goal.loop-place-smaller
loop-place-smaller c =
    drained_lower c.args.objects.now c.args.self.now c.loop-place.self c.loop-place.invariant
    c.next.new.self c.hand_over.new.self c.in-Some.place
    (λ r keeps. c.next.ensures.same c.args.objects.now r keeps)
    (λ r keeps. c.in-Some.ensures.waits c.args.objects.now r keeps)
    (λ r letter keeps at. c.in_ok-hand_over.ensures r letter keeps at) c.requires.some

pub loop-place-preserved : goal.loop-place-preserved
loop-place-preserved c =
    drained_more c.args.objects.now c.args.self.now c.loop-place.self c.loop-place.invariant
    c.next.new.self c.hand_over.new.self c.in-Some.place
    (λ r keeps. c.next.ensures.same c.args.objects.now r keeps)
    (λ r keeps. c.in-Some.ensures.waits c.args.objects.now r keeps)
    (λ r letter keeps at. c.in_ok-hand_over.ensures r letter keeps at)

pub returns : goal.returns
returns c = λ r keeps. (
  refl,
  all_drained c.args.objects.now c.args.self.now c.loop-place.self c.loop-place.invariant
      c.next.new.self (λ q k. c.next.ensures.same c.args.objects.now q k)
      (λ q k. c.in_default.ensures.waits c.args.objects.now q k) r keeps,
)
