-- Those that are left say whether all are low.
use Rattle.std.proofs.Common.{◌≡◌, drop}
use Rattle.cam_node.specs.Restartable.{are_low}
use Rattle.cam_node.proofs.restartable.are_low.Given as goal

abbrev pub invariant-loop-one : goal.invariant-loop-one
invariant-loop-one l = are_low (drop l.one-index l.held) ≡ are_low l.held
