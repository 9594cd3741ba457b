use Rattle.std.proofs.Common.{take}
use Rattle.cam_shrink.specs.Least.{IsRound}
use Rattle.cam_shrink.proofs.shrinking.try_cuts.Given as goal

abbrev pub invariant-loop-cut : goal.invariant-loop-cut
invariant-loop-cut g l = IsRound (g.T.Test.answers l.test) (take l.cut-index l.cut-items) l.fn.kept l.kept
