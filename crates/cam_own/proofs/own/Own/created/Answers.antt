use Rattle.std.proofs.Common.{ap, ◌∙◌}
use Rattle.cam_own.specs.declared.actions.Action.{Action}
use Rattle.cam_own.proofs.own.Own.created.Goals as goal

pub returns : goal.returns
returns c = λ objects s L E kept. ap (λ (r : Action). r.is_created) (c.action_in.ensures ∙ kept.actions c.args.action.now)
