-- Node by node the lesser count.
use Rattle.std.proofs.Common.{ℕ, ◌≤◌, ◌∙◌, sym, arith, subst, get_or}
use Rattle.cam_know.specs.LeastCounts.{lesser_counts}
use Rattle.cam_know.proofs.LeastCounts.{lesser_counts_is, lesser_to}
use Rattle.cam_know.proofs.oldest.Oldest.join.Goals as goal

pub invariant_of-result : goal.invariant_of-result
invariant_of-result c = record {
  eight = c.loop-node.invariant.0;
  from = λ k below. omega arith;
  to = λ k below. subst (λ (n : ℕ). n ≤ 1000000000) (sym (c.loop-node.invariant.1 k (omega (arith, c.loop-node-test.false))))
      (lesser_to (get_or c.self.inside.counts k 0) (get_or c.other.inside.counts k 0) (c.self.invariant.to k below) (c.other.invariant.to k below));
}

pub returns : goal.returns
returns c =
    lesser_counts_is c.self.inside.counts c.other.inside.counts c.loop-node.counts
    c.self.invariant.eight c.other.invariant.eight c.loop-node.invariant.0
    (λ k below. c.loop-node.invariant.1 k (omega (arith, c.loop-node-test.false)))
    ∙ (λ i. lesser_counts (c.self.view_is i) (c.other.view_is i))
