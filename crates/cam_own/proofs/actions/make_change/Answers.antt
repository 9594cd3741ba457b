use Rattle.std.proofs.Common.{◌∙◌, ap}
use Rattle.cam_own.specs.Actions.{changed}
use Rattle.cam_own.proofs.Putting.{change_put}
use Rattle.cam_own.proofs.actions.make_change.Goals as goal

pub returns : goal.returns
returns c =
    change_put c.args.actions.now c.insert.new.self c.args.name.now c.args.change.now c.in_ok-action.action
    (c.in_ok-action.ensures ∙ ap (changed c.args.change.now) c.action_in.ensures) c.in_ok-insert.ensures.updates.0
