-- Where the actions are that work at a body.
use Rattle.cam_cluster.proofs.BodiesAtNodes.{bodies_stay_at_nodes, runs_have_bodies_at_nodes}
use Rattle.cam_cluster.proofs.at_nodes.bodies_at_nodes.Goals as goal

pub returns-clause-stay : goal.returns-clause-stay
returns-clause-stay c = bodies_stay_at_nodes

pub returns-clause-runs : goal.returns-clause-runs
returns-clause-runs c = runs_have_bodies_at_nodes
