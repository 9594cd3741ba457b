use Rattle.std.proofs.Common.{arith}
use Rattle.cam_names.proofs.Dependencies.{greater_counts_is}
use Rattle.cam_own.proofs.depending.greater.Goals as goal

pub returns-clause-value : goal.returns-clause-value
returns-clause-value c =
    greater_counts_is c.args.one.now c.args.other.now c.loop-node.counts (omega arith) (omega arith) c.loop-node.invariant.0
    (λ k below. c.loop-node.invariant.1 k (omega (arith, c.loop-node-test.false)))

pub returns-clause-range : goal.returns-clause-range
returns-clause-range c =
    record {
      eight = c.loop-node.invariant.0;
      from = λ k below. omega arith;
      to = λ k below.
          let e = c.loop-node.invariant.1 k (omega (arith, c.loop-node-test.false)) in
          let f = c.requires.one.to k below in
          let g = c.requires.other.to k below in
          omega (arith, e, f, g);
    }
