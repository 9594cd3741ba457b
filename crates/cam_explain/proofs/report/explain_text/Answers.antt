use Rattle.cam_explain.specs.Moments.{told_in}
use Rattle.cam_explain.proofs.Explaining.{explaining}
use Rattle.cam_explain.proofs.report.explain_text.Goals as goal

pub returns : goal.returns
returns c = λ whole.
    explaining c.args.source.now c.args.script.now c.args.scope.now c.args.run.now (told_in c.in_ok-course.course) c.in_ok-deeds.deeds _ _ _ _ _
    c.in_ok-course.ensures c.in_ok-deeds.ensures c.in_ok-text.ensures c.in_ok-add_marks.ensures (c.in_ok-add_stops.ensures whole)
    c.in_ok-add_notes.ensures c.in_ok-add_values.ensures
