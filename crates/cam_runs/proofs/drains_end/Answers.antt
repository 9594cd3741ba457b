-- Drains end.
use Rattle.cam_runs.proofs.Drained.{each_delivery_lowers, drains_leave_none, plays_leave_none}
use Rattle.cam_runs.proofs.drains_end.Goals as goal

pub returns-clause-lowers : goal.returns-clause-lowers
returns-clause-lowers c = each_delivery_lowers

pub returns-clause-ends : goal.returns-clause-ends
returns-clause-ends c = drains_leave_none

pub returns-clause-plays : goal.returns-clause-plays
returns-clause-plays c = plays_leave_none
