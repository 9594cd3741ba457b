-- A whole script is run over the disks.
use Rattle.cam_cluster.proofs.RunDisks.{from_nothing, run_back, run_cause, run_failed, run_known}
use Rattle.cam_cluster.proofs.run.run_script.Goals as goal

pub returns-in-Ok-clause-run : goal.returns-in-Ok-clause-run
returns-in-Ok-clause-run g c =
    run_known _ _ _ _ _
    (run_failed g.D.Disk.tells _ _ _ _ _ c.in_ok-cluster.ensures.later c.end-record.ensures.later _
    (from_nothing _ _ _ _ c.in_ok-cluster.ensures.nothing c.take_all-taken.ensures.disks))
    (c.end-record.ensures.record c.args.script.now c.in-Ok.ensures.all)

pub returns-in-Ok-clause-disks : goal.returns-in-Ok-clause-disks
returns-in-Ok-clause-disks g c =
    run_back _ _ _ _ _ _ c.in_ok-cluster.ensures.later c.end-record.ensures.later
    c.take_all-taken.ensures.disks.later

pub returns-in-Err-clause-disks : goal.returns-in-Err-clause-disks
returns-in-Err-clause-disks g c =
    run_back _ _ _ _ _ _ c.in_ok-cluster.ensures.later c.end-record.ensures.later
    c.take_all-taken.ensures.disks.later

pub returns-in-Err-clause-cause : goal.returns-in-Err-clause-cause
returns-in-Err-clause-cause g c =
    run_cause g.D.Disk.tells _ _ _ _ _ c.in_ok-cluster.ensures.later c.end-record.ensures.later _
    (from_nothing _ _ _ _ c.in_ok-cluster.ensures.nothing c.take_all-taken.ensures.disks) _ c.in-Err.ensures.cause
