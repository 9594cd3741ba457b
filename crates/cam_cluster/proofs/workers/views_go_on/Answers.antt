-- What an event adds to views.
use Rattle.cam_cluster.proofs.ViewSteps.{others_change_no_view, views_go_on}
use Rattle.cam_cluster.proofs.workers.views_go_on.Goals as goal

pub returns-clause-steps : goal.returns-clause-steps
returns-clause-steps c = views_go_on

pub returns-clause-others : goal.returns-clause-others
returns-clause-others c = others_change_no_view
