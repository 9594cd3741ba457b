-- The next line is taken, or refused.
use Rattle.std.proofs.Common.{Result, Ok, Err}
use Rattle.cam_cluster.proofs.AsSeen.{lines_of, part, reads_of}
use Rattle.cam_cluster.proofs.FoundedDisks.{nodes_as_many}
use Rattle.cam_cluster.proofs.LedRuns.{next_led, next_refused}
use Rattle.cam_cluster.proofs.WholeRuns.{next_line}
use Rattle.cam_cluster.proofs.cluster.Cluster.take_next.Goals as goal

pub line-requires : goal.line-requires
line-requires g c = record {
  next =
      next_line c.args.script.now c.args.step.now
      (lines_of g.L.CheckpointLog g.L.EntryLog c.args.self.now.course.lines)
      (reads_of g.L.CheckpointLog g.L.EntryLog c.args.self.now.course.lines.works)
      c.args.self.now.course.workers c.requires.next;
}

pub returns-in-Ok-clause-taken : goal.returns-in-Ok-clause-taken
returns-in-Ok-clause-taken g c =
    next_led c.args.script.now c.args.step.now
    (lines_of g.L.CheckpointLog g.L.EntryLog c.args.self.now.course.lines)
    (lines_of g.L.CheckpointLog g.L.EntryLog c.line.new.self.course.lines)
    (reads_of g.L.CheckpointLog g.L.EntryLog c.args.self.now.course.lines.works)
    (reads_of g.L.CheckpointLog g.L.EntryLog c.line.new.self.course.lines.works)
    c.args.self.now.course.workers c.line.new.self.course.workers c.in-Ok.field-0
    c.in-Ok.ensures.line

pub returns-in-Err-Refused-clause-taken : goal.returns-in-Err-Refused-clause-taken
returns-in-Err-Refused-clause-taken g c =
    next_refused c.args.script.now c.args.step.now
    (lines_of g.L.CheckpointLog g.L.EntryLog c.args.self.now.course.lines)
    (lines_of g.L.CheckpointLog g.L.EntryLog c.line.new.self.course.lines)
    (reads_of g.L.CheckpointLog g.L.EntryLog c.args.self.now.course.lines.works)
    (reads_of g.L.CheckpointLog g.L.EntryLog c.line.new.self.course.lines.works)
    c.args.self.now.course.workers c.line.new.self.course.workers c.in-Err-Refused.field-0 _
    c.in-Err-Refused.field-0-is c.in-Err-Refused.ensures.line

pub returns-in-Ok-clause-as_many : goal.returns-in-Ok-clause-as_many
returns-in-Ok-clause-as_many g c = nodes_as_many _ _ _ c.line.ensures.disks.later

pub returns-in-Err-Refused-clause-as_many : goal.returns-in-Err-Refused-clause-as_many
returns-in-Err-Refused-clause-as_many g c = nodes_as_many _ _ _ c.line.ensures.disks.later

pub returns-in-Err-Ended-clause-as_many : goal.returns-in-Err-Ended-clause-as_many
returns-in-Err-Ended-clause-as_many g c = nodes_as_many _ _ _ c.line.ensures.disks.later
