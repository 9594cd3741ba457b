use Rattle.std.proofs.Common.{◌≡◌, ◌+◌, ◌≤◌, drop, length}
use Rattle.cam_bytes.specs.Fields.{pairs_above}
use Rattle.cam_bytes.proofs.pairs.number_above.Given as goal

abbrev pub invariant-loop-node : goal.invariant-loop-node
invariant-loop-node l = (l.number ≤ l.node) × (l.number + length (pairs_above l.base (l.node + 1) (drop l.node l.counts)) ≡ length (pairs_above l.base 1 l.counts))
