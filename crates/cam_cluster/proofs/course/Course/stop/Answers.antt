-- `stop`, in a course.
use Rattle.std.proofs.Common.{◌≡◌, ℕ, ◌≤◌, Ok, Err, sym, subst, rules}
use Rattle.std.proofs.lemmas.List.{length-map}
use Rattle.cam_script.specs.declared.Act.TheVariants as acts
use Rattle.cam_cluster.specs.declared.course.CourseFault.TheVariants as faults
use Rattle.cam_cluster.specs.Courses.{IsAtWorkLine}
use Rattle.cam_cluster.proofs.AsSeen.{lines_of, part, reads_of}
use Rattle.cam_cluster.proofs.StopTaken.{stop_at_work, stops_within}
use Rattle.cam_cluster.proofs.Takes.{some_lines}
use Rattle.cam_cluster.proofs.course.Course.stop.Goals as goal

pub stop-requires-clause-low : goal.stop-requires-clause-low
stop-requires-clause-low g c = (stops_within _ _ _ _ _ c.requires.next).0

pub stop-requires-clause-node : goal.stop-requires-clause-node
stop-requires-clause-node g c =
    rw (← (length-map c.args.self.now.lines.works.nodes.items (part g.L.CheckpointLog g.L.EntryLog))) (stops_within _ _ _ _ _ c.requires.next).1

pub stop-requires-clause-stand : goal.stop-requires-clause-stand
stop-requires-clause-stand g c = some_lines _ _ _ _ c.requires.next

pub returns-in_err-stop : goal.returns-in_err-stop
returns-in_err-stop g c =
    let old = lines_of g.L.CheckpointLog g.L.EntryLog c.args.self.now.lines in
    let might = reads_of g.L.CheckpointLog g.L.EntryLog c.args.self.now.lines.works in
    let new = lines_of g.L.CheckpointLog g.L.EntryLog c.stop.new.self in
    let may = reads_of g.L.CheckpointLog g.L.EntryLog c.stop.new.self.works in
    let is : c.from_residual.result ≡ Err (faults.Line c.in_err-stop.field-0.0) = search rules in
    record {
      line = λ bodies.
          subst (λ r. IsAtWorkLine
          (record { line = c.args.line; act = acts.Stop c.args.node c.args.calls }) bodies old might
          c.args.self.now.workers new may c.args.self.now.workers r) (sym is)
          (stop_at_work c.args.line c.args.node c.args.calls bodies old new might may
          c.args.self.now.workers (Err c.in_err-stop.field-0.0) c.in_err-stop.ensures.line);
      disks = c.stop.ensures.disks;
    }

pub returns : goal.returns
returns g c =
    let old = lines_of g.L.CheckpointLog g.L.EntryLog c.args.self.now.lines in
    let might = reads_of g.L.CheckpointLog g.L.EntryLog c.args.self.now.lines.works in
    let new = lines_of g.L.CheckpointLog g.L.EntryLog c.stop.new.self in
    let may = reads_of g.L.CheckpointLog g.L.EntryLog c.stop.new.self.works in
    record {
      line = λ bodies.
          stop_at_work c.args.line c.args.node c.args.calls bodies old new might may
          c.args.self.now.workers (Ok c.in_ok-stop.field-0) c.in_ok-stop.ensures.line;
      disks = c.stop.ensures.disks;
    }
