use Rattle.cam_scope.proofs.names.+write_from.Given as goal

abbrev pub decreases-write_from : goal.decreases-write_from
decreases-write_from l = l.levels
