-- Events without a deed.
use Rattle.cam_node.proofs.Quiet.{idle_keeps}
use Rattle.cam_node.proofs.quiet_events.Goals as goal

pub returns : goal.returns
returns c = idle_keeps
