use Rattle.std.proofs.Common.{length}
use Rattle.cam_know.proofs.know.Know.+aborted_by.Given as goal

abbrev pub decreases-aborted_by : goal.decreases-aborted_by
decreases-aborted_by l = length l.name.now
