use Rattle.std.proofs.Common.{◌≡◌, ◌++◌, ◌∷◌, [], List, Some, cond, unwrap_or, ap, ◌∙◌}
use Rattle.std.specs.Ordering.{is_eq}
use Rattle.std.specs.BTreeMap.{get}
use Rattle.cam_names.specs.Names.{name_cmp}
use Rattle.cam_event.specs.declared.Operation.{Operation}
use Rattle.cam_serial.specs.Gathered.{group_in}
use Rattle.cam_serial.proofs.Gathering.{group_put}
use Rattle.cam_serial.proofs.groups.add.Goals as goal

pub returns : goal.returns
returns c =
    let old : c.unwrap_or-group.result ≡ group_in c.args.groups.now c.args.family.now =
    c.unwrap_or-group.ensures ∙ (λ i. unwrap_or (c.remove.ensures.value i) (c.new.ensures i))
    in
    let longer : c.push_copy.new.self ≡ group_in c.args.groups.now c.args.family.now ++ c.args.operation.now ∷ [] =
    c.in_ok-push_copy.ensures.ok ∙ ap (λ (s : List Operation). s ++ c.args.operation.now ∷ []) old
    in
    group_put c.args.groups.now c.remove.new.self c.insert.new.self c.args.family.now c.args.operation.now c.remove.ensures.updates.0
    (λ q. c.in_ok-insert.ensures.updates.0 q ∙ ap (λ (s : List Operation). cond (is_eq (name_cmp c.args.family.now q)) (Some s) (get name_cmp c.remove.new.self q)) longer)
