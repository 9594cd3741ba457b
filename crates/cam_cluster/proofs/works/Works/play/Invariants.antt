-- So many rounds were played, in each of which an input was put, and some run is kept.
use Rattle.cam_cluster.specs.Plays.{IsPlayOfSome}
use Rattle.cam_cluster.specs.Failing.{DisksGoOn}
use Rattle.cam_cluster.proofs.AsSeen.{reads_of, works_of}
use Rattle.cam_cluster.proofs.PlayedRounds.{PlayedRounds}
use Rattle.cam_cluster.proofs.works.Works.play.Given as goal

abbrev pub invariant-loop : goal.invariant-loop
invariant-loop g l = record {
  so_far :
      PlayedRounds l.counter l.line l.bodies
      (works_of g.L.CheckpointLog g.L.EntryLog l.initial.self)
      (reads_of g.L.CheckpointLog g.L.EntryLog l.initial.self) l.initial.workers
      (works_of g.L.CheckpointLog g.L.EntryLog l.self)
      (reads_of g.L.CheckpointLog g.L.EntryLog l.self) l.workers;
  some :
      IsPlayOfSome l.bodies (works_of g.L.CheckpointLog g.L.EntryLog l.self)
      (reads_of g.L.CheckpointLog g.L.EntryLog l.self) l.workers;
  disks :
      DisksGoOn (works_of g.L.CheckpointLog g.L.EntryLog l.initial.self)
      (works_of g.L.CheckpointLog g.L.EntryLog l.self);
}
