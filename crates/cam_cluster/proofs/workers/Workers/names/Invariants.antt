-- The names so far, and those after them.
use Rattle.std.proofs.Common.{◌≡◌, ◌++◌}
use Rattle.cam_cluster.proofs.workers.Workers.names.Given as goal

abbrev pub invariant-loop-name : goal.invariant-loop-name
invariant-loop-name l = l.names ++ l.name-iterator ≡ l.self.playing.keys
