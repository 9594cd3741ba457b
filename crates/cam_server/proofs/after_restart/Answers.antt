use Rattle.cam_server.proofs.Restarting.{restart_keeps}
use Rattle.cam_server.proofs.after_restart.Goals as goal

pub returns : goal.returns
returns c = restart_keeps
