use Rattle.std.proofs.Common.{◌≡◌, ◌++◌, ◌∷◌, [], List, Some, cond, unwrap_or, ap, ◌∙◌}
use Rattle.std.specs.Ordering.{is_eq}
use Rattle.std.specs.BTreeMap.{get}
use Rattle.cam_names.specs.Names.{name_cmp}
use Rattle.cam_explain.specs.declared.moments.Moment.{Moment}
use Rattle.cam_explain.specs.Moments.{moments_in}
use Rattle.cam_explain.proofs.Adding.{moments_put}
use Rattle.cam_explain.proofs.course.add_moment.Goals as goal

pub returns : goal.returns
returns c =
    let old : c.unwrap_or-moments.result ≡ moments_in c.args.all.now c.args.action.now =
    c.unwrap_or-moments.ensures ∙ (λ i. unwrap_or (c.remove.ensures.value i) (c.new.ensures i))
    in
    let longer : c.push_copy.new.self ≡ moments_in c.args.all.now c.args.action.now ++ c.args.moment.now ∷ [] =
    c.in_ok-push_copy.ensures.ok ∙ ap (λ (s : List Moment). s ++ c.args.moment.now ∷ []) old
    in
    moments_put c.args.all.now c.remove.new.self c.insert.new.self c.args.action.now c.args.moment.now c.remove.ensures.updates.0
    (λ q. c.in_ok-insert.ensures.updates.0 q ∙ ap (λ (s : List Moment). cond (is_eq (name_cmp c.args.action.now q)) (Some s) (get name_cmp c.remove.new.self q)) longer)
