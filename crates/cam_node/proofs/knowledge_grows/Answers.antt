-- What a node knows and has noted.
use Rattle.cam_node.proofs.Learnt.{knowledge_grows, places_grow, loads_go_on}
use Rattle.cam_node.proofs.knowledge_grows.Goals as goal

pub returns-clause-known : goal.returns-clause-known
returns-clause-known c = knowledge_grows

pub returns-clause-places : goal.returns-clause-places
returns-clause-places c = places_grow

pub returns-clause-loads : goal.returns-clause-loads
returns-clause-loads c = loads_go_on
