-- The next line leads on, or is refused.
use Rattle.std.proofs.Common.{Err, subst, sym}
use Rattle.cam_cluster.specs.declared.fault.ClusterFault.{ClusterFault}
use Rattle.cam_cluster.specs.Clusters.{IsLineOf, StandsAs}
use Rattle.cam_cluster.specs.Seen.{Seen}
use Rattle.cam_cluster.proofs.AsSeen.{lines_of, part, reads_of}
use Rattle.cam_cluster.proofs.LedRuns.{line_ended, line_led}
use Rattle.cam_cluster.proofs.cluster.Cluster.take.Goals as goal

pub returns-in_ok-unfailing-in-Ok-clause-line : goal.returns-in_ok-unfailing-in-Ok-clause-line
returns-in_ok-unfailing-in-Ok-clause-line g c seen stood next of_script =
    line_led c.args.script.now c.args.step.now
    (lines_of g.L.CheckpointLog g.L.EntryLog c.args.self.now.course.lines)
    (lines_of g.L.CheckpointLog g.L.EntryLog c.take.new.self.lines)
    (reads_of g.L.CheckpointLog g.L.EntryLog c.args.self.now.course.lines.works)
    (reads_of g.L.CheckpointLog g.L.EntryLog c.take.new.self.lines.works)
    c.args.self.now.course.workers c.take.new.self.workers seen stood next of_script
    c.in_ok-unfailing-in-Ok.ensures.unfailing c.take.ensures.disks.known.more c.in-Ok.bad
    c.in-Ok.ensures.line

pub returns-in_ok-unfailing-in-Err-clause-line : goal.returns-in_ok-unfailing-in-Err-clause-line
returns-in_ok-unfailing-in-Err-clause-line g c seen stood next of_script =
    subst
    (λ (f : ClusterFault). IsLineOf seen c.args.step.now
    (λ (x : Seen). StandsAs x (lines_of g.L.CheckpointLog g.L.EntryLog c.take.new.self.lines)
    (reads_of g.L.CheckpointLog g.L.EntryLog c.take.new.self.lines.works)
    c.take.new.self.workers) (Err f))
    (sym c.ended_by.ensures.is)
    (line_ended c.args.script.now c.args.step.now
    (lines_of g.L.CheckpointLog g.L.EntryLog c.args.self.now.course.lines)
    (lines_of g.L.CheckpointLog g.L.EntryLog c.take.new.self.lines)
    (reads_of g.L.CheckpointLog g.L.EntryLog c.args.self.now.course.lines.works)
    (reads_of g.L.CheckpointLog g.L.EntryLog c.take.new.self.lines.works)
    c.args.self.now.course.workers c.take.new.self.workers seen stood next of_script
    c.in_ok-unfailing-in-Err.ensures.unfailing c.take.ensures.disks.known.more c.in-Err.fault
    c.in-Err.ensures.line)
