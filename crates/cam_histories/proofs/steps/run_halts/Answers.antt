-- Halts and restarts of a run.
use Rattle.cam_histories.proofs.Halting.{lost_halts_stand}
use Rattle.cam_histories.proofs.RestartedRun.{restarts_stand}
use Rattle.cam_histories.proofs.steps.run_halts.Goals as goal

pub returns-clause-lost : goal.returns-clause-lost
returns-clause-lost c = lost_halts_stand

pub returns-clause-restart : goal.returns-clause-restart
returns-clause-restart c = restarts_stand
