-- A play ends by its rule.
use Rattle.cam_runs.proofs.PlaysEnd.{plays_are_over}
use Rattle.cam_runs.proofs.plays_end.Goals as goal

pub returns : goal.returns
returns c = plays_are_over
