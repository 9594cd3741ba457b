-- The end of a child is a step of its parent's view.
use Rattle.std.proofs.Common.{sym, ◌∙◌}
use Rattle.cam_cluster.proofs.ViewSteps.{child_has_parent, top_has_none}
use Rattle.cam_cluster.proofs.views.child_end.Goals as goal

pub returns-in-Some : goal.returns-in-Some
returns-in-Some c a named =
    child_has_parent _ _ _ c.args.value named (sym c.parent.ensures.value ∙ c.in-Some.is)

pub returns-in-None : goal.returns-in-None
returns-in-None c a named =
    top_has_none _ _ c.args.value named (sym c.parent.ensures.value ∙ c.in-None.is)
