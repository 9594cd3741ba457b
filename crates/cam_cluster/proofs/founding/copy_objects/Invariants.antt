use Rattle.std.proofs.Common.{◌≡◌, take}
use Rattle.cam_cluster.proofs.founding.copy_objects.Given as goal

abbrev pub invariant-loop-declared : goal.invariant-loop-declared
invariant-loop-declared l = l.copy ≡ take l.declared-index l.declared-items
