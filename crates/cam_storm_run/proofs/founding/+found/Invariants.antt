use Rattle.std.proofs.Common.{length}
use Rattle.cam_storm_run.proofs.founding.+found.Given as goal

abbrev pub decreases-found : goal.decreases-found
decreases-found g l = length l.disks.now.items
