use Rattle.std.proofs.Common.{◌≡◌, ◌++◌}
use Rattle.cam_shrink.specs.Cuts.{alone}
use Rattle.cam_shrink.proofs.cuts.add_lines.Given as goal

abbrev pub invariant-loop-place : goal.invariant-loop-place
invariant-loop-place l = l.cuts ≡ l.fn.cuts ++ alone l.place
