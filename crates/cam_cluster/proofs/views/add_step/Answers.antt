-- A step is added to the view of one action.
use Rattle.std.proofs.Common.{◌≡◌, ◌++◌, ◌∷◌, [], List, Some, cond, unwrap_or, ap, ◌∙◌}
use Rattle.std.specs.Ordering.{is_eq}
use Rattle.std.specs.BTreeMap.{get}
use Rattle.cam_names.specs.Names.{name_cmp}
use Rattle.cam_event.specs.declared.ViewStep.{ViewStep}
use Rattle.cam_cluster.specs.ActionViews.{view_in}
use Rattle.cam_cluster.proofs.ViewSteps.{view_put}
use Rattle.cam_cluster.proofs.views.add_step.Goals as goal

pub returns : goal.returns
returns c =
    let old : c.unwrap_or-view.result ≡ view_in c.args.views.now c.args.action.now =
    c.unwrap_or-view.ensures ∙ (λ i. unwrap_or (c.remove.ensures.value i) (c.new.ensures i)) in
    let longer : c.push_copy.new.self
    ≡ view_in c.args.views.now c.args.action.now ++ c.args.step.now ∷ [] =
    c.in_ok-push_copy.ensures.ok ∙ ap (λ (s : List ViewStep). s ++ c.args.step.now ∷ []) old in
    view_put c.args.views.now c.remove.new.self c.insert.new.self _ _ c.remove.ensures.updates.0
    (λ q. c.in_ok-insert.ensures.updates.0 q ∙ ap (λ (s : List ViewStep). cond (is_eq (name_cmp
    c.args.action.now q)) (Some s) (get name_cmp c.remove.new.self q)) longer)
