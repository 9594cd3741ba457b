-- A disk that always tells does.
use Rattle.cam_storm_run.proofs.fault_counts.FaultCounts.of.Goals as goal

pub returns-clause-always : goal.returns-clause-always
returns-clause-always g c = g.met.D.TellingDisk.always
