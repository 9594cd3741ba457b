use Rattle.std.proofs.Common.{ap, ◌∙◌}
use Rattle.cam_own.specs.declared.actions.Action.{Action}
use Rattle.cam_own.proofs.own.Own.asks.Goals as goal

pub returns : goal.returns
returns c = λ objects s L E kept. ap (λ (r : Action). r.asks) (c.action_in.ensures ∙ kept.actions c.args.action.now)
