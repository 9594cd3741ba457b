use Rattle.std.proofs.Common.{length}
use Rattle.cam_orphan.proofs.+family_oldest.Given as goal

abbrev pub decreases-family_oldest : goal.decreases-family_oldest
decreases-family_oldest l = length l.name.now
