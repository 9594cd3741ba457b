use Rattle.std.proofs.Common.{length}
use Rattle.cam_image.proofs.words.+write_pairs.Given as goal

abbrev pub decreases-write_pairs : goal.decreases-write_pairs
decreases-write_pairs l = length l.counts.now
