-- So many letters were handed over, some run is kept, and the letters that wait weigh less.
use Rattle.cam_cluster.specs.Coming.{AreWorksOfSome}
use Rattle.cam_cluster.specs.Drains.{HasDeliveredSome, works_weight}
use Rattle.cam_cluster.specs.Failing.{DisksGoOn}
use Rattle.cam_cluster.proofs.AsSeen.{reads_of, works_of}
use Rattle.cam_cluster.proofs.works.Works.drain.Given as goal

abbrev pub invariant-loop : goal.invariant-loop
invariant-loop g l = record {
  so_far :
      HasDeliveredSome l.line (works_of g.L.CheckpointLog g.L.EntryLog l.initial.self)
      (reads_of g.L.CheckpointLog g.L.EntryLog l.initial.self)
      (works_of g.L.CheckpointLog g.L.EntryLog l.self)
      (reads_of g.L.CheckpointLog g.L.EntryLog l.self);
  some : AreWorksOfSome (works_of g.L.CheckpointLog g.L.EntryLog l.self)
      (reads_of g.L.CheckpointLog g.L.EntryLog l.self);
  disks :
      DisksGoOn (works_of g.L.CheckpointLog g.L.EntryLog l.initial.self)
      (works_of g.L.CheckpointLog g.L.EntryLog l.self);
}

abbrev pub decreases-loop : goal.decreases-loop
decreases-loop g l = works_weight (works_of g.L.CheckpointLog g.L.EntryLog l.self)
