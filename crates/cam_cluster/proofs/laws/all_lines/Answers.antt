-- All lines of a script.
use Rattle.cam_cluster.proofs.AllLines.{lines_make_the_run, all_lines_are_the_run}
use Rattle.cam_cluster.proofs.laws.all_lines.Goals as goal

pub returns-clause-lines : goal.returns-clause-lines
returns-clause-lines c = lines_make_the_run

pub returns-clause-run : goal.returns-clause-run
returns-clause-run c = all_lines_are_the_run
