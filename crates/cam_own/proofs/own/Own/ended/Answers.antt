use Rattle.std.proofs.Common.{sym, ap, ◌∙◌}
use Rattle.cam_own.specs.declared.actions.Action.{Action}
use Rattle.cam_own.proofs.Asking.{or_first, or_second}
use Rattle.cam_own.proofs.own.Own.ended.Goals as goal

pub returns-then-kept : goal.returns-then-kept
returns-then-kept c = λ objects s L E kept.
    let is = c.action_in-kept.ensures ∙ kept.actions c.args.action.now in
    let commit = ap (λ (r : Action). r.asked_commit) is in
    commit ∙ or_first _ _ (sym commit ∙ c.if-kept.true)

pub returns-else-kept : goal.returns-else-kept
returns-else-kept c = λ objects s L E kept.
    let is = c.action_in-kept.ensures ∙ kept.actions c.args.action.now in
    let commit = ap (λ (r : Action). r.asked_commit) is in
    ap (λ (r : Action). r.asked_abort) is ∙ or_second _ _ (sym commit ∙ c.if-kept.false)
