use Rattle.std.proofs.Common.{length}
use Rattle.cam_live.proofs.tables.+has_ancestor.Given as goal

abbrev pub decreases-has_ancestor : goal.decreases-has_ancestor
decreases-has_ancestor l = length l.action.now
