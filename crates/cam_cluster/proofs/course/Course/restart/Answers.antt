-- `restart`, in a course.
use Rattle.std.proofs.Common.{◌≡◌, ℕ, ◌<◌, ◌≤◌, ◌-◌, length, None, Ok, Err, sym, subst, arith}
use Rattle.std.proofs.Common.{rules}
use Rattle.std.proofs.lemmas.List.{length-map}
use Rattle.cam_script.specs.declared.Act.TheVariants as acts
use Rattle.cam_cluster.specs.declared.course.CourseFault.TheVariants as faults
use Rattle.cam_cluster.specs.declared.LineFault.TheVariants as line_faults
use Rattle.cam_cluster.specs.Courses.{IsAtWorkLine}
use Rattle.cam_cluster.specs.Restarts.{HasFoundByStop, IsRestartLine}
use Rattle.cam_cluster.proofs.AsSeen.{lines_of, part, reads_of}
use Rattle.cam_cluster.proofs.RestartTaken.{at_place, failed_at_work, found_at_work}
use Rattle.cam_cluster.proofs.RestartTaken.{restart_wanting, restarts_within, stood_at_work}
use Rattle.cam_cluster.proofs.Takes.{some_lines}
use Rattle.cam_cluster.proofs.course.Course.restart.Goals as goal

pub restart-requires-clause-low : goal.restart-requires-clause-low
restart-requires-clause-low g c = (restarts_within _ _ _ _ c.requires.next).0

pub restart-requires-clause-node : goal.restart-requires-clause-node
restart-requires-clause-node g c =
    rw (← (length-map c.args.self.now.lines.works.nodes.items (part g.L.CheckpointLog g.L.EntryLog))) (restarts_within _ _ _ _ c.requires.next).1

pub restart-requires-clause-stand : goal.restart-requires-clause-stand
restart-requires-clause-stand g c = some_lines _ _ _ _ c.requires.next

pub returns-in_err-restart : goal.returns-in_err-restart
returns-in_err-restart g c =
    let old = lines_of g.L.CheckpointLog g.L.EntryLog c.args.self.now.lines in
    let might = reads_of g.L.CheckpointLog g.L.EntryLog c.args.self.now.lines.works in
    let new = lines_of g.L.CheckpointLog g.L.EntryLog c.restart.new.self in
    let may = reads_of g.L.CheckpointLog g.L.EntryLog c.restart.new.self.works in
    let within = restarts_within _ _ _ _ c.requires.next in
    let there : c.args.node - 1 < length c.args.self.now.lines.works.nodes.items =
    let low = within.0 in
    let high = within.1 in
    let many =
    length-map c.args.self.now.lines.works.nodes.items (part g.L.CheckpointLog g.L.EntryLog) in
    omega (arith, low, high, many) in
    let is : c.from_residual.result ≡ Err (faults.Line line_faults.NoMemory) = search rules in
    record {
      line = λ bodies. rw is (at_place _ _ _ (IsAtWorkLine (record {
        line = c.args.line;
        act =
            acts.Restart c.args.node;
      }) bodies old might c.args.self.now.workers new may
          c.args.self.now.workers (Err (faults.Line line_faults.NoMemory))) there
          c.in_err-restart.ensures.line (λ node told. restart_wanting c.args.line _ _ _ _ _ _
          _ _ (told (g.met.L.TellingLog.always node.log.log))));
      disks = c.restart.ensures.disks;
    }

pub returns-in-Stood : goal.returns-in-Stood
returns-in-Stood g c =
    let old = lines_of g.L.CheckpointLog g.L.EntryLog c.args.self.now.lines in
    let might = reads_of g.L.CheckpointLog g.L.EntryLog c.args.self.now.lines.works in
    let new = lines_of g.L.CheckpointLog g.L.EntryLog c.restart.new.self in
    let may = reads_of g.L.CheckpointLog g.L.EntryLog c.restart.new.self.works in
    let within = restarts_within c.args.line c.args.node old might c.requires.next in
    let there : c.args.node - 1 < length c.args.self.now.lines.works.nodes.items =
    let low = within.0 in
    let high = within.1 in
    let many =
    length-map c.args.self.now.lines.works.nodes.items (part g.L.CheckpointLog g.L.EntryLog) in
    omega (arith, low, high, many) in
    record {
      line = λ bodies.
          at_place c.args.self.now.lines.works.nodes.items (c.args.node - 1) _
          (IsAtWorkLine (record { line = c.args.line; act = acts.Restart c.args.node }) bodies old
          might c.args.self.now.workers new may c.args.self.now.workers (Ok None)) there
          c.in_ok-restart.ensures.line
          (λ node told. stood_at_work c.args.line c.args.node bodies old new might may
          c.args.self.now.workers within.0
          (subst (λ done. HasFoundByStop (c.args.node - 1) old.works might done) c.in-Stood.is
          c.in_ok-restart.ensures.by_stop)
          (subst (λ r. IsRestartLine c.args.node old might new may (Ok r)) c.in-Stood.is
          (told (g.met.L.TellingLog.always node.log.log))));
      disks = c.restart.ensures.disks;
    }

pub returns-in-Found : goal.returns-in-Found
returns-in-Found g c =
    let old = lines_of g.L.CheckpointLog g.L.EntryLog c.args.self.now.lines in
    let might = reads_of g.L.CheckpointLog g.L.EntryLog c.args.self.now.lines.works in
    let new = lines_of g.L.CheckpointLog g.L.EntryLog c.restart.new.self in
    let may = reads_of g.L.CheckpointLog g.L.EntryLog c.restart.new.self.works in
    let within = restarts_within c.args.line c.args.node old might c.requires.next in
    let there : c.args.node - 1 < length c.args.self.now.lines.works.nodes.items =
    let low = within.0 in
    let high = within.1 in
    let many =
    length-map c.args.self.now.lines.works.nodes.items (part g.L.CheckpointLog g.L.EntryLog) in
    omega (arith, low, high, many) in
    record {
      line = λ bodies.
          at_place c.args.self.now.lines.works.nodes.items (c.args.node - 1) _
          (IsAtWorkLine (record { line = c.args.line; act = acts.Restart c.args.node }) bodies old
          might c.args.self.now.workers new may c.forget.new.self (Ok None)) there
          c.in_ok-restart.ensures.line
          (λ node told. found_at_work c.args.line c.args.node bodies old new might may
          c.args.self.now.workers c.forget.new.self within.0
          (subst (λ done. HasFoundByStop (c.args.node - 1) old.works might done) c.in-Found.is
          c.in_ok-restart.ensures.by_stop)
          (subst (λ r. IsRestartLine c.args.node old might new may (Ok r)) c.in-Found.is
          (told (g.met.L.TellingLog.always node.log.log)))
          c.forget.ensures.given);
      disks = c.restart.ensures.disks;
    }

pub returns-in-Failed : goal.returns-in-Failed
returns-in-Failed g c =
    let old = lines_of g.L.CheckpointLog g.L.EntryLog c.args.self.now.lines in
    let might = reads_of g.L.CheckpointLog g.L.EntryLog c.args.self.now.lines.works in
    let new = lines_of g.L.CheckpointLog g.L.EntryLog c.restart.new.self in
    let may = reads_of g.L.CheckpointLog g.L.EntryLog c.restart.new.self.works in
    let within = restarts_within _ _ _ _ c.requires.next in
    let there : c.args.node - 1 < length c.args.self.now.lines.works.nodes.items =
    let low = within.0 in
    let high = within.1 in
    let many =
    length-map c.args.self.now.lines.works.nodes.items (part g.L.CheckpointLog g.L.EntryLog) in
    omega (arith, low, high, many) in
    record {
      line = λ bodies. at_place _ _ _ (IsAtWorkLine (record {
        line = c.args.line;
        act =
            acts.Restart c.args.node;
      }) bodies old might c.args.self.now.workers new may
          c.args.self.now.workers (Err faults.RestartFailed)) there c.in_ok-restart.ensures.line (λ
          node told. failed_at_work c.args.line _ _ _ new _ may _ c.args.self.now.workers
          (subst (λ r. IsRestartLine c.args.node old might new may (Ok r)) c.in-Failed.is (told
          (g.met.L.TellingLog.always node.log.log))));
      disks = c.restart.ensures.disks;
    }
