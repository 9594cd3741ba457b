-- The answer where the disk of a node failed, and where none did.
use Rattle.std.proofs.Common.{◌≡◌, subst}
use Rattle.cam_cluster.specs.declared.fault.RunFault.{RunFault}
use Rattle.cam_cluster.specs.declared.fault.RunFault.TheVariants.{DiskFault}
use Rattle.cam_run.specs.Disks.{FailedAt, IsCaused}
use Rattle.cam_run.specs.Storm.{KeepStorm}
use Rattle.cam_run.proofs.Commanded.{of_disk}
use Rattle.cam_run.proofs.Stormed.{told_of_storm}
use Rattle.cam_run.proofs.storm.of_storm.Goals as goal

pub returns-in-Err-DiskFault-clause-answer : goal.returns-in-Err-DiskFault-clause-answer
returns-in-Err-DiskFault-clause-answer g c =
    let is : c.in-Err-DiskFault.field-0 ≡ DiskFault c.in-Err-DiskFault.node = cc in
    of_disk 4 (FailedAt g.D.Disk.faults c.args.disks.now.items c.run.new.disks.items)
    c.in-Err-DiskFault.node _ c.disk_fault.result
    (subst
    (λ (fault : RunFault).
    IsCaused 4 (FailedAt g.D.Disk.faults c.args.disks.now.items c.run.new.disks.items) fault)
    is c.in-Err-DiskFault.ensures.cause)
    c.disk_fault.ensures.status c.disk_fault.ensures.text

pub returns-in-Ok-clause-answer : goal.returns-in-Ok-clause-answer
returns-in-Ok-clause-answer g c =
    told_of_storm c.args.storm.now
    (FailedAt g.D.Disk.faults c.args.disks.now.items c.run.new.disks.items)
    (KeepStorm g.D.Disk.tells g.D.Disk.moment g.D.Disk.left_since c.run.new.disks.items
    c.args.storm.now)
    _ c.report.result c.in-Ok.ensures.run c.in-Ok.ensures.settled c.in-Ok.ensures.kept
    c.in-Ok.ensures.steady c.report.ensures.text c.report.ensures.status
