-- The lines before this one were taken.
use Rattle.std.proofs.Common.{◌≡◌, length}
use Rattle.cam_cluster.specs.Failing.{DisksGoOn}
use Rattle.cam_cluster.specs.WholeRuns.{HasTakenLines}
use Rattle.cam_cluster.proofs.AsSeen.{lines_of, reads_of, works_of}
use Rattle.cam_cluster.proofs.cluster.Cluster.take_all.Given as goal

abbrev pub invariant-loop-step : goal.invariant-loop-step
invariant-loop-step g l = record {
  taken : HasTakenLines l.fn.script l.step-index
      (lines_of g.L.CheckpointLog g.L.EntryLog l.self.course.lines)
      (reads_of g.L.CheckpointLog g.L.EntryLog l.self.course.lines.works) l.self.course.workers;
  items : l.step-items ≡ l.fn.script.steps;
  disks :
      DisksGoOn (works_of g.L.CheckpointLog g.L.EntryLog l.fn.self.course.lines.works)
      (works_of g.L.CheckpointLog g.L.EntryLog l.self.course.lines.works);
  as_many :
      length l.self.course.lines.works.nodes.items
      ≡ length l.fn.self.course.lines.works.nodes.items;
}
