use Rattle.cam_shrink.proofs.Rounds.{round_none, round_next}
use Rattle.cam_shrink.proofs.shrinking.try_cuts.Goals as goal

pub loop-cut-init : goal.loop-cut-init
loop-cut-init g c = round_none (g.T.Test.answers c.args.test.now) c.args.kept.now

pub loop-cut-preserved : goal.loop-cut-preserved
loop-cut-preserved g c =
    round_next (g.T.Test.answers c.args.test.now) c.as_slice-cut-items.result.now c.loop-cut.cut-index c.cut-item.result
    c.args.kept.now c.loop-cut.kept c.try_cut.new.kept c.loop-cut-test.true c.cut-item.is c.loop-cut.invariant c.in_ok-try_cut.ensures
