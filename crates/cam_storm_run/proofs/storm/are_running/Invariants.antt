-- None of the nodes so far has given up.
use Rattle.std.proofs.Common.{◌≡◌, ◌<◌, ◌||◌, ℕ, false}
use Rattle.std.specs.Prelude.{Some, slice_get}
use Rattle.cam_storm_run.proofs.storm.are_running.Given as goal

abbrev pub invariant-loop-core : goal.invariant-loop-core
invariant-loop-core g l =
    (at : ℕ) (node : _) → at < l.core-index → slice_get l.cores at ≡ Some node
    → (node.lost || node.node.log.halted) ≡ false
