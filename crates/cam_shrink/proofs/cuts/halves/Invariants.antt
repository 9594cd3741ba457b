use Rattle.cam_shrink.proofs.cuts.halves.Given as goal

abbrev pub decreases-loop-size : goal.decreases-loop-size
decreases-loop-size l = l.size
