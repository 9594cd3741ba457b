use Rattle.std.proofs.Common.{◌∷◌, None}
use Rattle.cam_timed.specs.TimedScripts.{GoesOn}
use Rattle.cam_timed.proofs.CourseLetters.{loss_so, no_letter_so}
use Rattle.cam_timed.proofs.course.Course.lose.Goals as goal

pub returns-in_default : goal.returns-in_default
returns-in_default c = λ objects r keeps.
    no_letter_so objects r c.args.self.now keeps c.args.letter
    (λ letter. GoesOn (record r { lost = c.args.letter ∷ r.lost }) None) c.no_letter.result
    (c.in_default.ensures.place objects r keeps) c.no_letter.ensures

pub returns : goal.returns
returns c = λ objects r keeps.
    let at = c.in-Some.ensures.place objects r keeps in
    loss_so objects r c.args.self.now keeps c.args.letter c.in-Some.place at.0
    c.insert.new.self at.1 c.in-Some.ensures.number (λ q. c.in_ok-insert.ensures.updates.0 q)
