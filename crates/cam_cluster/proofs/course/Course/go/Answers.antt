-- `go`, in a course.
use Rattle.std.proofs.Common.{◌≡◌, Ok, Err, sym, subst, rules}
use Rattle.cam_script.specs.declared.Act.TheVariants as acts
use Rattle.cam_cluster.specs.declared.course.CourseFault.TheVariants as faults
use Rattle.cam_cluster.specs.Courses.{IsAtWorkLine}
use Rattle.cam_cluster.proofs.AsSeen.{lines_of, reads_of}
use Rattle.cam_cluster.proofs.GoTaken.{go_at_work, go_of_course}
use Rattle.cam_cluster.proofs.course.Course.go.Goals as goal

pub go-requires : goal.go-requires
go-requires g c = record {
  go =
      let old = lines_of g.L.CheckpointLog g.L.EntryLog c.args.self.now.lines in
      let might = reads_of g.L.CheckpointLog g.L.EntryLog c.args.self.now.lines.works in
      go_of_course c.args.line c.args.action c.args.bodies.now old old might might
      c.args.self.now.workers c.args.self.now.workers c.requires.next;
}

pub returns-in_err-go-clause-disks : goal.returns-in_err-go-clause-disks
returns-in_err-go-clause-disks g c =
    c.go.ensures.disks

pub returns-in_err-go-clause-line : goal.returns-in_err-go-clause-line
returns-in_err-go-clause-line g c =
    let old = lines_of g.L.CheckpointLog g.L.EntryLog c.args.self.now.lines in
    let might = reads_of g.L.CheckpointLog g.L.EntryLog c.args.self.now.lines.works in
    let new = lines_of g.L.CheckpointLog g.L.EntryLog c.go.new.self in
    let may = reads_of g.L.CheckpointLog g.L.EntryLog c.go.new.self.works in
    let is : c.from_residual.result ≡ Err (faults.Line c.in_err-go.field-0.0) = search rules in
    subst (λ r. IsAtWorkLine (record { line = c.args.line; act = acts.Go c.args.action })
    c.args.bodies.now old might c.args.self.now.workers new may c.go.new.workers r) (sym is)
    (go_at_work c.args.line c.args.action c.args.bodies.now old new might may
    c.args.self.now.workers c.go.new.workers (Err c.in_err-go.field-0.0) c.in_err-go.ensures.line)

pub returns-clause-disks : goal.returns-clause-disks
returns-clause-disks g c =
    c.go.ensures.disks

pub returns-clause-line : goal.returns-clause-line
returns-clause-line g c =
    let old = lines_of g.L.CheckpointLog g.L.EntryLog c.args.self.now.lines in
    let might = reads_of g.L.CheckpointLog g.L.EntryLog c.args.self.now.lines.works in
    let new = lines_of g.L.CheckpointLog g.L.EntryLog c.go.new.self in
    let may = reads_of g.L.CheckpointLog g.L.EntryLog c.go.new.self.works in
    go_at_work c.args.line c.args.action c.args.bodies.now old new might may
    c.args.self.now.workers c.go.new.workers (Ok c.in_ok-go.field-0) c.in_ok-go.ensures.line
