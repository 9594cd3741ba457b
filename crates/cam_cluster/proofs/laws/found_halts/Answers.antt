-- The last halt of a node, found to be taken.
use Rattle.cam_cluster.proofs.FoundHalts.{found_lines_put_in}
use Rattle.cam_cluster.proofs.HaltsDiffer.{found_halts_differ}
use Rattle.cam_cluster.proofs.LaterHalts.{later_halts_stay}
use Rattle.cam_cluster.proofs.LinesUnder.{lines_are_under_halts}
use Rattle.cam_cluster.proofs.laws.found_halts.Goals as goal

pub returns-clause-differ : goal.returns-clause-differ
returns-clause-differ c = found_halts_differ

pub returns-clause-lines : goal.returns-clause-lines
returns-clause-lines c = found_lines_put_in

pub returns-clause-under : goal.returns-clause-under
returns-clause-under c = lines_are_under_halts

pub returns-clause-later : goal.returns-clause-later
returns-clause-later c = later_halts_stay
