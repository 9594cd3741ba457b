-- The journal that was opened.
use Rattle.cam_storm_run.proofs.storm.storm_as.Given as goal

abbrev pub ghosts-storm_in : goal.ghosts-storm_in
ghosts-storm_in g a = record { journal = a.journal.id }
