use Rattle.std.proofs.Common.{◌-◌, ◌<◌}
use Rattle.cam_shrink.proofs.cuts.add_neighbours.Given as goal

abbrev pub invariant-loop-first : goal.invariant-loop-first
invariant-loop-first l = 0 < l.size

abbrev pub decreases-loop-first : goal.decreases-loop-first
decreases-loop-first l = l.lines - l.first
