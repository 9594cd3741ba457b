use Rattle.std.proofs.Common.{length}
use Rattle.cam_rules.proofs.calls.+is_over.Given as goal

abbrev pub decreases-is_over : goal.decreases-is_over
decreases-is_over g l = length l.action.now
