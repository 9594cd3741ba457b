-- Nothing is left behind the last node.
use Rattle.std.proofs.Common.{◌≡◌, ◌-◌, length, arith, sym, ap, ◌∙◌}
use Rattle.std.specs.Prelude.{nat_le, slice_index}
use Rattle.cam_commit.proofs.Pairs.{all_past}
use Rattle.cam_node.proofs.restartable.are_known.Goals as goal

pub returns : goal.returns
returns c =
    let eight : length c.args.deps.now ≡ 8 =
    sym (ap (λ cs. length cs) c.counts-counts.ensures.value) ∙ c.counts-counts.ensures.range.eight in
    let past : length c.args.deps.now ≡ c.loop-node.node - 1 =
    omega (arith, eight, c.loop-node-test.false, c.loop-node.invariant.0, c.loop-node.invariant.1) in
    sym
    (c.loop-node.invariant.2
    ∙ all_past (λ p. nat_le p.1 (slice_index c.args.known.now (p.0 - 1))) c.loop-node.node
    (c.loop-node.node - 1) c.args.deps.now past)
