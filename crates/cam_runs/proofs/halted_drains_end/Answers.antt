-- Drains end in runs in which nodes halt.
use Rattle.cam_runs.proofs.HaltedDrained.{halted_deliveries_lower, halted_drains_leave_none, halted_plays_leave_none}
use Rattle.cam_runs.proofs.halted_drains_end.Goals as goal

pub returns-clause-lowers : goal.returns-clause-lowers
returns-clause-lowers c = halted_deliveries_lower

pub returns-clause-ends : goal.returns-clause-ends
returns-clause-ends c = halted_drains_leave_none

pub returns-clause-plays : goal.returns-clause-plays
returns-clause-plays c = halted_plays_leave_none
