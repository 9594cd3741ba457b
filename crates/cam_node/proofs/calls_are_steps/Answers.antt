use Rattle.cam_node.proofs.CallComes.{call_comes}
use Rattle.cam_node.proofs.calls_are_steps.Goals as goal

pub returns : goal.returns
returns c = call_comes
