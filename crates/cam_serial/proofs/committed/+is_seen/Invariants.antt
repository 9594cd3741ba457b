use Rattle.std.proofs.Common.{length}
use Rattle.cam_serial.proofs.committed.+is_seen.Given as goal

abbrev pub decreases-is_seen : goal.decreases-is_seen
decreases-is_seen l = length l.action.now
