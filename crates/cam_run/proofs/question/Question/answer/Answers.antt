-- The answer where the run was made, and where a disk kept it from that.
use Rattle.std.proofs.Common.{◌≡◌, inr, subst}
use Rattle.std.proofs.lemmas.Result.{IfOk-weaker}
use Rattle.cam_cluster.specs.declared.fault.RunFault.{RunFault}
use Rattle.cam_cluster.specs.declared.fault.RunFault.TheVariants.{DiskFault}
use Rattle.cam_run.specs.Status.{number}
use Rattle.cam_run.specs.Disks.{FailedAt, IsNamed}
use Rattle.cam_run.proofs.Commanded.{of_named}
use Rattle.cam_run.proofs.Recorded.{is_whole, told_of_run}
use Rattle.cam_run.proofs.question.Question.answer.Goals as goal

pub tell-requires : goal.tell-requires
tell-requires g c =
    is_whole c.args.script.now _ c.in-Ok.record c.in-Ok.ensures.run c.requires.script

pub returns-in-Err-DiskFault-clause-answer : goal.returns-in-Err-DiskFault-clause-answer
returns-in-Err-DiskFault-clause-answer g c =
    let is : c.in-Err-DiskFault.field-0 ≡ DiskFault c.in-Err-DiskFault.node = cc in
    of_named c.args.script.now.nodes
    (FailedAt g.D.Disk.faults c.args.disks.now.items c.run.new.disks.items)
    c.in-Err-DiskFault.node _ c.disk_fault.result
    (subst
    (λ (fault : RunFault).
    IsNamed c.args.script.now.nodes
    (FailedAt g.D.Disk.faults c.args.disks.now.items c.run.new.disks.items) fault)
    is c.in-Err-DiskFault.ensures.cause)
    c.disk_fault.ensures.status c.disk_fault.ensures.text

pub returns-in-Ok-clause-answer : goal.returns-in-Ok-clause-answer
returns-in-Ok-clause-answer g c =
    IfOk-weaker c.tell.result _ _
    (λ a told. inr (told_of_run c.args.script.now _ c.in-Ok.record c.in-Ok.ensures.run
    c.args.self.now (number a.status) a.text.items told))
    c.tell.ensures.told
