-- The step that a deed gives is added to its action's view.
use Rattle.std.proofs.Common.{refl}
use Rattle.cam_storm_node.proofs.Asking.{kept_noted, kept_same, on_ok, some_mail}
use Rattle.cam_storm_node.proofs.works.note_step.Goals as goal

pub returns-in-Some-clause-asking : goal.returns-in-Some-clause-asking
returns-in-Some-clause-asking c =
    on_ok c.add_step.result _ _
    (λ noted s L a named kept.
    let mail = some_mail c.args.finish in
    kept_noted s L c.args.deed.now a mail.0 c.in-Some.given.0 c.in-Some.given.1
    (c.in-Some.ensures mail.0 a mail.1 named) c.args.works.now c.add_step.new.works
    c.args.asking.now c.add_step.new.asking noted kept) c.add_step.ensures.asking

pub returns-in-None-clause-asking : goal.returns-in-None-clause-asking
returns-in-None-clause-asking c s L a named kept =
    let mail = some_mail c.args.finish in
    kept_same s L c.args.deed.now a mail.0 (c.in-None.ensures mail.0 a mail.1 named)
    c.args.works.now c.args.works.now c.args.asking.now c.args.asking.now refl refl kept
