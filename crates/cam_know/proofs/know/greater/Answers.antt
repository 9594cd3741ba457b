use Rattle.std.proofs.Common.{arith}
use Rattle.cam_names.proofs.Dependencies.{greater_counts_is}
use Rattle.cam_know.proofs.know.greater.Goals as goal

pub returns : goal.returns
returns c =
    greater_counts_is c.args.one.now c.args.other.now c.loop-node.counts (omega arith) (omega arith) c.loop-node.invariant.0
    (λ k below. c.loop-node.invariant.1 k (omega (arith, c.loop-node-test.false)))
