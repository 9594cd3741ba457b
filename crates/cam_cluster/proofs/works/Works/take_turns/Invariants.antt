-- The first actions had their turns, and some run is kept of which the homes of all are nodes.
use Rattle.std.proofs.Common.{take}
use Rattle.cam_cluster.specs.Rounds.{AreTurnsOfSome, HaveHadTurns}
use Rattle.cam_cluster.specs.Failing.{DisksGoOn}
use Rattle.cam_cluster.proofs.AsSeen.{reads_of, works_of}
use Rattle.cam_cluster.proofs.works.Works.take_turns.Given as goal

abbrev pub invariant-loop-name : goal.invariant-loop-name
invariant-loop-name g l = record {
  had :
      HaveHadTurns l.line (take l.name-index l.names) l.bodies
      (works_of g.L.CheckpointLog g.L.EntryLog l.initial.self)
      (reads_of g.L.CheckpointLog g.L.EntryLog l.initial.self) l.initial.workers
      (works_of g.L.CheckpointLog g.L.EntryLog l.self)
      (reads_of g.L.CheckpointLog g.L.EntryLog l.self) l.workers;
  some :
      AreTurnsOfSome l.names l.bodies (works_of g.L.CheckpointLog g.L.EntryLog l.self)
      (reads_of g.L.CheckpointLog g.L.EntryLog l.self) l.workers;
  disks :
      DisksGoOn (works_of g.L.CheckpointLog g.L.EntryLog l.initial.self)
      (works_of g.L.CheckpointLog g.L.EntryLog l.self);
}
