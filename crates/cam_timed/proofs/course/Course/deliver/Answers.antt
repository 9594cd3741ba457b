use Rattle.cam_timed.specs.TimedRunning.{by_time, deliver}
use Rattle.cam_timed.specs.TimedScripts.{GoesOn}
use Rattle.std.proofs.Common.{None}
use Rattle.cam_timed.proofs.CourseLetters.{delivery_so, no_letter_so, there_is}
use Rattle.cam_timed.proofs.course.Course.deliver.Goals as goal

pub returns-in_default : goal.returns-in_default
returns-in_default c = λ r keeps.
    no_letter_so c.args.objects.now r c.args.self.now keeps c.args.letter
    (λ letter. GoesOn (deliver (by_time c.args.objects.now) r c.args.letter letter) None)
    c.no_letter.result (c.in_default.ensures.place c.args.objects.now r keeps) c.no_letter.ensures

pub hand_over-requires-clause-place : goal.hand_over-requires-clause-place
hand_over-requires-clause-place c =
    let at = c.in-Some.ensures.place c.args.objects.now c.requires.some.0 c.requires.some.1 in
    there_is c.args.objects.now c.requires.some.0 c.args.self.now c.requires.some.1 c.in-Some.place
    at.0 at.2

pub returns : goal.returns
returns c = λ r keeps.
    let at = c.in-Some.ensures.place c.args.objects.now r keeps in
    delivery_so c.args.objects.now r c.args.self.now keeps c.args.letter c.in-Some.place at.0
    c.hand_over.new.self at.1 c.in-Some.ensures.number (c.in_ok-hand_over.ensures r at.0 keeps at.2)
