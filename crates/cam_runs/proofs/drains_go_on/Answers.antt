-- A drain goes on.
use Rattle.cam_runs.proofs.DrainsGoOn.{halted_drains_go_on, drains_are_over}
use Rattle.cam_runs.proofs.drains_go_on.Goals as goal

pub returns-clause-next : goal.returns-clause-next
returns-clause-next c = halted_drains_go_on

pub returns-clause-over : goal.returns-clause-over
returns-clause-over c = drains_are_over
