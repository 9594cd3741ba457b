-- The counts of the disks so far.
use Rattle.std.proofs.Common.{◌≡◌, take, length}
use Rattle.std.specs.Prelude.{map}
use Rattle.cam_storm_run.proofs.fault_counts.FaultCounts.of.Given as goal

abbrev pub invariant-loop-place : goal.invariant-loop-place
invariant-loop-place g l = record {
  four : length l.counts ≡ 4;
  so_far : take l.place l.counts ≡ map g.D.Disk.faults (take l.place l.disks);
}
