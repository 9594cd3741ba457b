use Rattle.std.proofs.Common.{length}
use Rattle.cam_plain.proofs.site.+aborted_ancestor.Given as goal

abbrev pub decreases-aborted_ancestor : goal.decreases-aborted_ancestor
decreases-aborted_ancestor l = length l.action.now
