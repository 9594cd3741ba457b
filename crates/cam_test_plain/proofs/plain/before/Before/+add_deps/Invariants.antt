use Rattle.std.proofs.Common.{length}
use Rattle.cam_test_plain.proofs.plain.before.Before.+add_deps.Given as goal

abbrev pub decreases-add_deps : goal.decreases-add_deps
decreases-add_deps l = length l.self.now.deeds.now
