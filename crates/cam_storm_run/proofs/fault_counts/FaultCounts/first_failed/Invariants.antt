-- None of the disks so far failed.
use Rattle.cam_cluster.proofs.FirstFailed.{NoneUpTo}
use Rattle.cam_storm_run.proofs.fault_counts.FaultCounts.first_failed.Given as goal

abbrev pub invariant-loop-place : goal.invariant-loop-place
invariant-loop-place g l = NoneUpTo g.D.Disk.faults l.self.counts l.disks l.place
