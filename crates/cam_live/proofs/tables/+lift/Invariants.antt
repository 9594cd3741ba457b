use Rattle.std.proofs.Common.{length}
use Rattle.cam_live.proofs.tables.+lift.Given as goal

abbrev pub decreases-lift : goal.decreases-lift
decreases-lift l = length l.action.now
