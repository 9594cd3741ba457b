use Rattle.cam_node.proofs.Restarting.{restart_keeps, restart_knows}
use Rattle.cam_node.proofs.laws.restarts_keep_histories.Goals as goal

pub returns-clause-keeps : goal.returns-clause-keeps
returns-clause-keeps c = restart_keeps

pub returns-clause-knows : goal.returns-clause-knows
returns-clause-knows c = restart_knows
