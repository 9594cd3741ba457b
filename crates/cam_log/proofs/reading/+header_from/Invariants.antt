use Rattle.std.proofs.Common.{◌-◌, length}
use Rattle.cam_log.proofs.reading.+header_from.Given as goal

abbrev pub decreases-header_from : goal.decreases-header_from
decreases-header_from l = length l.header.now - l.at
