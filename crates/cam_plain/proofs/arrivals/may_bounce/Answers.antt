use Rattle.std.proofs.Common.{sym, ◌∙◌}
use Rattle.cam_type.specs.declared.Answer.TheVariants as answers
use Rattle.cam_plain.specs.Legal.{history}
use Rattle.cam_plain.proofs.Granting.{attempted_conflict}
use Rattle.cam_plain.proofs.arrivals.may_bounce.Goals as goal

pub returns-in-Conflict-clause-same : goal.returns-in-Conflict-clause-same
returns-in-Conflict-clause-same c = λ passed.
    let objects = c.args.before.now.objects.now in
    let L = history c.args.before.now.deeds.now in
    attempted_conflict objects L c.args.action.now c.args.number answers.Empty _ c.in-Conflict.named _ c.attempt.new.sites
    (sym c.in-Conflict.is ∙ c.in_ok-attempt-in-Some.ensures.value) (c.in_ok-attempt-in-Some.ensures.kept c.args.number answers.Empty c.in-Some.ensures.called)
