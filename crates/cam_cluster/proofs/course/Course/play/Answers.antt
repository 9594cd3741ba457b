-- `play`, in a course.
use Rattle.std.proofs.Common.{◌≡◌, Err, sym, subst, rules}
use Rattle.cam_script.specs.declared.Act.TheVariants as acts
use Rattle.cam_cluster.specs.declared.LineFault.TheVariants as line_faults
use Rattle.cam_cluster.specs.declared.course.CourseFault.TheVariants as faults
use Rattle.cam_cluster.specs.Courses.{IsAtWorkLine}
use Rattle.cam_cluster.proofs.AsSeen.{lines_of, reads_of}
use Rattle.cam_cluster.proofs.PlayAtWork.{play_at_work, play_part_at_work}
use Rattle.cam_cluster.proofs.PlayTaken.{play_of_some}
use Rattle.cam_cluster.proofs.course.Course.play.Goals as goal

pub play-requires : goal.play-requires
play-requires g c = record {
  play =
      let old = lines_of g.L.CheckpointLog g.L.EntryLog c.args.self.now.lines in
      let might = reads_of g.L.CheckpointLog g.L.EntryLog c.args.self.now.lines.works in
      let some = c.requires.next in
      play_of_some some.seen c.args.bodies.now old might c.args.self.now.workers some.keeps.between
      some.keeps.workers some.bodies_are;
}

pub returns-in_err-play-clause-disks : goal.returns-in_err-play-clause-disks
returns-in_err-play-clause-disks g c =
    c.play.ensures.disks

pub returns-in_err-play-clause-line : goal.returns-in_err-play-clause-line
returns-in_err-play-clause-line g c =
    let old = lines_of g.L.CheckpointLog g.L.EntryLog c.args.self.now.lines in
    let might = reads_of g.L.CheckpointLog g.L.EntryLog c.args.self.now.lines.works in
    let new = lines_of g.L.CheckpointLog g.L.EntryLog c.play.new.self in
    let may = reads_of g.L.CheckpointLog g.L.EntryLog c.play.new.self.works in
    let is : c.from_residual.result ≡ Err (faults.Line line_faults.NoMemory) = search rules in
    subst (λ r. IsAtWorkLine (record { line = c.args.line; act = acts.Play }) c.args.bodies.now old
    might c.args.self.now.workers new may c.play.new.workers r) (sym is)
    (play_part_at_work c.args.line c.args.bodies.now old new might may c.args.self.now.workers
    c.play.new.workers c.in_err-play.ensures.part)

pub returns-clause-disks : goal.returns-clause-disks
returns-clause-disks g c =
    c.play.ensures.disks

pub returns-clause-line : goal.returns-clause-line
returns-clause-line g c =
    let old = lines_of g.L.CheckpointLog g.L.EntryLog c.args.self.now.lines in
    let might = reads_of g.L.CheckpointLog g.L.EntryLog c.args.self.now.lines.works in
    let new = lines_of g.L.CheckpointLog g.L.EntryLog c.play.new.self in
    let may = reads_of g.L.CheckpointLog g.L.EntryLog c.play.new.self.works in
    play_at_work c.args.line c.args.bodies.now old new might may c.args.self.now.workers
    c.play.new.workers c.in_ok-play.ensures.line
