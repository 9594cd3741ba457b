use Rattle.std.proofs.Common.{true, length}
use Rattle.cam_shrink.specs.Cuts.{IsPart}
use Rattle.cam_shrink.proofs.shrinking.settle.Given as goal

abbrev pub invariant-loop-kept : goal.invariant-loop-kept
invariant-loop-kept g l =
    IsPart l.kept l.fn.kept × (g.T.Test.answers l.test l.fn.kept true → g.T.Test.answers l.test l.kept true)

abbrev pub decreases-loop-kept : goal.decreases-loop-kept
decreases-loop-kept g l = length l.kept
