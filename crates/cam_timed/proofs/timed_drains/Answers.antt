-- A drain of a run by time leaves no letter waiting.
use Rattle.cam_timed.proofs.TimedDrained.{deliveries_lower, drains_leave_none}
use Rattle.cam_timed.proofs.timed_drains.Goals as goal

pub returns-clause-lower : goal.returns-clause-lower
returns-clause-lower c = deliveries_lower

pub returns-clause-none : goal.returns-clause-none
returns-clause-none c = drains_leave_none
