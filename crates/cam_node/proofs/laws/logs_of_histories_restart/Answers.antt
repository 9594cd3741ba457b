use Rattle.cam_node.proofs.RestartTaken.{logs_of_histories_restart}
use Rattle.cam_node.proofs.laws.logs_of_histories_restart.Goals as goal

pub returns : goal.returns
returns c = logs_of_histories_restart
