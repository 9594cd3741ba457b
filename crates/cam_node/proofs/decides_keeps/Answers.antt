-- Steps that leave a node standing for the longer history.
use Rattle.cam_node.proofs.Stepping.{step_stands}
use Rattle.cam_node.proofs.Decides.{decides_keep}
use Rattle.cam_node.proofs.decides_keeps.Goals as goal

pub returns-clause-any : goal.returns-clause-any
returns-clause-any c = step_stands

pub returns-clause-decision : goal.returns-clause-decision
returns-clause-decision c = decides_keep
