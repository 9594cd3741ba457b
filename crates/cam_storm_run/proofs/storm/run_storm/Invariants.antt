-- The storm has these words, and its disks have failed so often before it.
use Rattle.cam_storm_run.specs.Disks.{count_at}
use Rattle.cam_storm_run.proofs.storm.run_storm.Given as goal

abbrev pub ghosts-storm_as : goal.ghosts-storm_as
ghosts-storm_as g a = record {
  words = a.storm.now;
  failures = count_at g.D.Disk.faults a.disks.now.items;
}
