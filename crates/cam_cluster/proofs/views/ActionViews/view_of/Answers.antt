-- The view of an action.
use Rattle.std.proofs.Common.{◌≤◌, [], length, unwrap_or, ap, ◌∙◌, arith}
use Rattle.cam_cluster.proofs.views.ActionViews.view_of.Goals as goal

pub returns-in-Some : goal.returns-in-Some
returns-in-Some c t seen =
    let named : 1 ≤ length c.args.name.now =
    omega (arith, c.depth.ensures.from, c.depth.ensures.value) in
    ap (λ o. unwrap_or o []) c.in-Some.ensures.value ∙ seen.views.views c.args.name.now named

pub returns-in-None : goal.returns-in-None
returns-in-None c t seen =
    let named : 1 ≤ length c.args.name.now =
    omega (arith, c.depth.ensures.from, c.depth.ensures.value) in
    c.requires ∙ ap (λ o. unwrap_or o []) c.in-None.ensures.value
    ∙ seen.views.views c.args.name.now named
