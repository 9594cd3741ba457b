use Rattle.std.proofs.Common.{◌∷◌, [], ◌++◌, List, ap, ◌∙◌}
use Rattle.cam_names.specs.declared.name.Name.{Name}
use Rattle.cam_own.specs.Children.{children_in}
use Rattle.cam_own.proofs.Putting.{puts}
use Rattle.cam_own.proofs.children.note_ask.Goals as goal

pub returns : goal.returns
returns c =
    puts c.args.children.now c.take_out-names.new.children c.insert.new.self c.args.action.now _
    (children_in c.args.children.now c.args.action.now ++ c.args.child.now ∷ [])
    (c.in_ok-push_copy.ensures.ok ∙ ap (λ (names : List Name). names ++ c.args.child.now ∷ []) c.take_out-names.ensures.value)
    c.take_out-names.ensures.others c.in_ok-insert.ensures.updates.0
