use Rattle.std.proofs.Common.{length}
use Rattle.cam_storm_run.proofs.founding.+take_out.Given as goal

abbrev pub decreases-take_out : goal.decreases-take_out
decreases-take_out g l = length l.cores.now.items
