use Rattle.std.proofs.Common.{◌≡◌, ◌+◌, ◌++◌, drop, flat_map}
use Rattle.cam_bytes.specs.Fields.{pair, pairs_above, counts_above}
use Rattle.cam_bytes.proofs.pairs.write_counts_above.Given as goal

abbrev pub invariant-loop-node : goal.invariant-loop-node
invariant-loop-node l =
    l.out.items ++ flat_map pair (pairs_above l.base (l.node + 1) (drop l.node l.counts)) ≡ l.fn.out.items ++ counts_above l.base l.counts
