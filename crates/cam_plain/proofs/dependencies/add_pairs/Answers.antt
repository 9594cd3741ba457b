use Rattle.cam_plain.proofs.Dependent.{has_pair_further}
use Rattle.cam_plain.proofs.dependencies.add_pairs.Goals as goal

pub loop-pair-preserved : goal.loop-pair-preserved
loop-pair-preserved c =
    has_pair_further c.as_slice-pair-items.result.now c.loop-pair.pair-index (0, 0) c.loop-pair.pairs c.add_pair.new.pairs c.args.pairs.now
    c.loop-pair-test.true c.loop-pair.invariant c.in_ok-add_pair.ensures
