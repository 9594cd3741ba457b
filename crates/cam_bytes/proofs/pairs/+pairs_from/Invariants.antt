use Rattle.cam_bytes.proofs.pairs.+pairs_from.Given as goal

abbrev pub decreases-pairs_from : goal.decreases-pairs_from
decreases-pairs_from l = l.left
