-- Where the actions of variables are.
use Rattle.cam_cluster.proofs.AtNodes.{lines_stay_at_nodes, runs_are_at_nodes}
use Rattle.cam_cluster.proofs.at_nodes.variables_at_nodes.Goals as goal

pub returns-clause-stay : goal.returns-clause-stay
returns-clause-stay c = lines_stay_at_nodes

pub returns-clause-runs : goal.returns-clause-runs
returns-clause-runs c = runs_are_at_nodes
