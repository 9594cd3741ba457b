use Rattle.std.proofs.Common.{ap, ◌∙◌}
use Rattle.cam_own.specs.Children.{children_in, without}
use Rattle.cam_own.proofs.Putting.{puts}
use Rattle.cam_own.proofs.children.note_decided.Goals as goal

pub returns : goal.returns
returns c =
    puts c.args.children.now c.take_out-names.new.children c.insert.new.self c.args.action.now _
    (without c.args.child.now (children_in c.args.children.now c.args.action.now))
    (c.in_ok-kept.ensures ∙ ap (without c.args.child.now) c.take_out-names.ensures.value)
    c.take_out-names.ensures.others c.in_ok-insert.ensures.updates.0
