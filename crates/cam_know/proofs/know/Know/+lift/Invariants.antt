use Rattle.std.proofs.Common.{length}
use Rattle.cam_know.proofs.know.Know.+lift.Given as goal

abbrev pub decreases-lift : goal.decreases-lift
decreases-lift l = length l.name.now
