-- The next line of a course, by its kind.
use Rattle.std.proofs.Common.{◌≡◌, Ok, Err, sym, subst, rules}
use Rattle.cam_script.specs.declared.Act.{Act}
use Rattle.cam_cluster.specs.declared.course.CourseFault.TheVariants as faults
use Rattle.cam_cluster.specs.Courses.{IsAtWorkLine, IsNextOfCourse}
use Rattle.cam_cluster.specs.VariableLines.{IsNextOfSome}
use Rattle.cam_cluster.proofs.AsSeen.{lines_of, reads_of}
use Rattle.cam_cluster.proofs.CourseTaken.{next_of_course, taken_alone, taken_at_work}
use Rattle.cam_cluster.proofs.course.Course.take.Goals as goal

pub start-requires : goal.start-requires
start-requires g c = record {
  start = (c.in-Start.node, c.in-Start.is);
  next =
      let old = lines_of g.L.CheckpointLog g.L.EntryLog c.args.self.now.lines in
      let might = reads_of g.L.CheckpointLog g.L.EntryLog c.args.self.now.lines.works in
      next_of_course c.args.step.now c.args.bodies.now old might c.args.self.now.workers
      c.requires.next;
}

pub go-requires : goal.go-requires
go-requires g c = record {
  next = rw (← c.in-Go.is) c.requires.next;
}

pub play-requires : goal.play-requires
play-requires g c = record {
  next = rw (← c.in-Play.is) c.requires.next;
}

pub restart-requires : goal.restart-requires
restart-requires g c =
    let old = lines_of g.L.CheckpointLog g.L.EntryLog c.args.self.now.lines in
    let might = reads_of g.L.CheckpointLog g.L.EntryLog c.args.self.now.lines.works in
    record {
      next =
          subst (λ (a : Act). IsNextOfSome c.args.step.now.line a old might) c.in-Restart.is
          (next_of_course c.args.step.now c.args.bodies.now old might c.args.self.now.workers
          c.requires.next);
    }

pub stop-requires : goal.stop-requires
stop-requires g c =
    record {
      next = rw (← c.in-Stop.is) (next_of_course _ _ _ _ _ c.requires.next);
    }

pub take-requires : goal.take-requires
take-requires g c =
    record {
      built =
          (taken_alone _ c.in_default.not-Start c.in_default.not-Go c.in_default.not-Play
          c.in_default.not-Restart c.in_default.not-Stop).0;
      next = next_of_course _ _ _ _ _ c.requires.next;
    }

pub returns-in-Start : goal.returns-in-Start
returns-in-Start g c = record {
  disks = c.start.ensures.disks;
  line = c.start.ensures.line c.args.bodies.now;
}

pub returns-in-Go : goal.returns-in-Go
returns-in-Go g c = record {
  disks = c.go.ensures.disks;
  line = rw c.in-Go.is c.go.ensures.line;
}

pub returns-in-Play : goal.returns-in-Play
returns-in-Play g c = record {
  disks = c.play.ensures.disks;
  line = rw c.in-Play.is c.play.ensures.line;
}

pub returns-in-Restart : goal.returns-in-Restart
returns-in-Restart g c = record {
  disks = c.restart.ensures.disks;
  line =
      let old = lines_of g.L.CheckpointLog g.L.EntryLog c.args.self.now.lines in
      let might = reads_of g.L.CheckpointLog g.L.EntryLog c.args.self.now.lines.works in
      let new = lines_of g.L.CheckpointLog g.L.EntryLog c.restart.new.self.lines in
      let may = reads_of g.L.CheckpointLog g.L.EntryLog c.restart.new.self.lines.works in
      subst (λ (a : Act). IsAtWorkLine (record { line = c.args.step.now.line; act = a })
      c.args.bodies.now old might c.args.self.now.workers new may c.restart.new.self.workers
      c.restart.result) (sym c.in-Restart.is) (c.restart.ensures.line c.args.bodies.now);
}

pub returns-in-Stop : goal.returns-in-Stop
returns-in-Stop g c = record {
  disks = c.stop.ensures.disks;
  line = rw c.in-Stop.is (c.stop.ensures.line c.args.bodies.now);
}

pub returns-in_err-take-in_default : goal.returns-in_err-take-in_default
returns-in_err-take-in_default g c =
    let old = lines_of g.L.CheckpointLog g.L.EntryLog c.args.self.now.lines in
    let might = reads_of g.L.CheckpointLog g.L.EntryLog c.args.self.now.lines.works in
    let new = lines_of g.L.CheckpointLog g.L.EntryLog c.take.new.self in
    let may = reads_of g.L.CheckpointLog g.L.EntryLog c.take.new.self.works in
    let alone =
    taken_alone c.args.step.now.act c.in_default.not-Start c.in_default.not-Go
    c.in_default.not-Play c.in_default.not-Restart c.in_default.not-Stop in
    let is : c.from_residual.result ≡ Err (faults.Line c.in_err-take-in_default.field-0.0) =
    search rules in
    record {
      line =
          subst (λ r. IsAtWorkLine c.args.step.now c.args.bodies.now old might
          c.args.self.now.workers new may c.args.self.now.workers r) (sym is)
          (taken_at_work c.args.step.now c.args.bodies.now old new might may
          c.args.self.now.workers (Err c.in_err-take-in_default.field-0.0) alone.0 alone.1
          c.in_err-take-in_default.ensures.line);
      disks = c.take.ensures.disks;
    }

pub returns-in_ok-take-in_default : goal.returns-in_ok-take-in_default
returns-in_ok-take-in_default g c =
    let old = lines_of g.L.CheckpointLog g.L.EntryLog c.args.self.now.lines in
    let might = reads_of g.L.CheckpointLog g.L.EntryLog c.args.self.now.lines.works in
    let new = lines_of g.L.CheckpointLog g.L.EntryLog c.take.new.self in
    let may = reads_of g.L.CheckpointLog g.L.EntryLog c.take.new.self.works in
    let alone =
    taken_alone c.args.step.now.act c.in_default.not-Start c.in_default.not-Go
    c.in_default.not-Play c.in_default.not-Restart c.in_default.not-Stop in
    record {
      line =
          taken_at_work c.args.step.now c.args.bodies.now old new might may
          c.args.self.now.workers (Ok c.in_ok-take-in_default.field-0) alone.0 alone.1
          c.in_ok-take-in_default.ensures.line;
      disks = c.take.ensures.disks;
    }
