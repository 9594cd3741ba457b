use Rattle.std.proofs.Common.{◌≡◌, Bool, true, ◌&&◌, sym, ap, ◌∙◌}
use Rattle.cam_event.specs.History.{runs, asked}
use Rattle.cam_plain.specs.declared.actions.Action.{Action}
use Rattle.cam_plain.specs.Legal.{history}
use Rattle.cam_plain.specs.Tests.{may_abort_test}
use Rattle.cam_plain.proofs.Children.{asked_by_parent}
use Rattle.cam_plain.proofs.lines.may_end.Goals as goal

pub returns-then-runs : goal.returns-then-runs
returns-then-runs c =
    let L = history c.args.before.now.deeds.now in
    let a = c.args.name.now in
    let p = c.in-Some.parent in
    let run : runs L p ≡ true = sym c.runs.ensures ∙ c.if-runs.true in
    ap (λ (r : Action). r.is_asked_for) c.action-action.ensures
    ∙ asked_by_parent c.args.before.now.objects.now L a p c.requires.legal (sym c.in-Some.ensures.value)
    ∙ ap (λ (b : Bool). b && asked L p a) (sym run)
    ∙ ap (may_abort_test L a) c.in-Some.ensures.value
