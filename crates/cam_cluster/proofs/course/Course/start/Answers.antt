-- `start`, in a course.
use Rattle.std.proofs.Common.{◌≡◌, Some, Err, sym, subst, rules}
use Rattle.cam_script.specs.declared.Act.{Act}
use Rattle.cam_cluster.specs.declared.LineFault.TheVariants as line_faults
use Rattle.cam_cluster.specs.declared.course.CourseFault.TheVariants as faults
use Rattle.cam_cluster.specs.Courses.{IsAtWorkLine}
use Rattle.cam_cluster.specs.Taking.{IsTakenAlone}
use Rattle.cam_cluster.proofs.AsSeen.{lines_of, reads_of}
use Rattle.cam_cluster.proofs.CourseTaken.{fault_at_work}
use Rattle.cam_cluster.proofs.DisksGoOn.{goes_on_still}
use Rattle.cam_cluster.proofs.StartTaken.{Gives, start_at_work, start_wanting}
use Rattle.cam_cluster.proofs.course.Course.start.Goals as goal

pub returns-in_err-reserve-clause-disks : goal.returns-in_err-reserve-clause-disks
returns-in_err-reserve-clause-disks g c =
    goes_on_still

pub returns-in_err-reserve-clause-line : goal.returns-in_err-reserve-clause-line
returns-in_err-reserve-clause-line g c =
    let is : c.from_residual.result ≡ Err (faults.Line line_faults.NoMemory) = search rules in
    λ bodies. rw is (start_wanting _ _ _ _ _ _ _ _ c.requires.start.1
    c.reserve.ensures.stay)

pub take-requires-clause-built : goal.take-requires-clause-built
take-requires-clause-built g c = rw c.requires.start.1 tt

pub take-requires-clause-next : goal.take-requires-clause-next
take-requires-clause-next g c =
    c.requires.next

pub returns-in_err-bad-clause-disks : goal.returns-in_err-bad-clause-disks
returns-in_err-bad-clause-disks g c =
    c.take.ensures.disks

pub returns-in_err-bad-clause-line : goal.returns-in_err-bad-clause-line
returns-in_err-bad-clause-line g c =
    let old = lines_of g.L.CheckpointLog g.L.EntryLog c.args.self.now.lines in
    let might = reads_of g.L.CheckpointLog g.L.EntryLog c.args.self.now.lines.works in
    let new = lines_of g.L.CheckpointLog g.L.EntryLog c.take.new.self in
    let may = reads_of g.L.CheckpointLog g.L.EntryLog c.take.new.self.works in
    let is : c.from_residual-in_err-bad.result
    ≡ Err (faults.Line c.in_err-bad.field-0.0) = search rules in λ bodies.
    subst (λ r. IsAtWorkLine c.args.step.now bodies old might c.args.self.now.workers new may
    c.reserve.new.self r) (sym is)
    (fault_at_work c.args.step.now bodies old new might may c.args.self.now.workers
    c.reserve.new.self c.in_err-bad.field-0.0
    (subst (λ (a : Act). IsTakenAlone a) (sym c.requires.start.1) tt) c.reserve.ensures.stay
    c.in_err-bad.ensures.line)

pub give_body-requires : goal.give_body-requires
give_body-requires g c =
    c.in_ok-reserve.ensures.room

pub returns-clause-disks : goal.returns-clause-disks
returns-clause-disks g c =
    c.take.ensures.disks

pub returns-clause-line : goal.returns-clause-line
returns-clause-line g c =
    let old = lines_of g.L.CheckpointLog g.L.EntryLog c.args.self.now.lines in
    let might = reads_of g.L.CheckpointLog g.L.EntryLog c.args.self.now.lines.works in
    let new = lines_of g.L.CheckpointLog g.L.EntryLog c.take.new.self in
    let may = reads_of g.L.CheckpointLog g.L.EntryLog c.take.new.self.works in
    λ bodies.
    start_at_work c.args.step.now c.requires.start.0 c.args.body bodies old new might may
    c.args.self.now.workers c.reserve.new.self c.give_body.new.workers c.in_ok-bad.bad
    c.requires.start.1 c.reserve.ensures.stay
    (subst (λ o. Gives (Some c.args.body) o c.reserve.new.self c.give_body.new.workers)
    c.newest.ensures c.give_body.ensures)
    c.in_ok-bad.ensures.line
