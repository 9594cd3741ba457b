-- The record, and the disks at their places.
use Rattle.std.proofs.Common.{sym, subst}
use Rattle.std.specs.Prelude.{map}
use Rattle.cam_ckpt.specs.Moments.{Openings}
use Rattle.cam_ckpt.specs.Reading.{read_ckpt}
use Rattle.cam_node.specs.Calls.{answers}
use Rattle.cam_node.specs.Opened.{MayRead}
use Rattle.cam_cluster.specs.HandedBack.{AreLater}
use Rattle.cam_cluster.specs.WholeRuns.{IsRunWithLogs}
use Rattle.cam_cluster.specs.Works.{MayReadAt}
use Rattle.cam_cluster.proofs.LogsKept.{disks_are_logs, record_of_disks}
use Rattle.cam_cluster.proofs.run.Cluster+Ckpt+StopDisk+D.end.Goals as goal

pub returns-clause-record : goal.returns-clause-record
returns-clause-record g c script taken =
    record_of_disks _ (λ node. MayRead (Openings (g.D.Disk.left_since node.log.log.disk.inner))
    (g.D.Disk.moment node.log.log.disk.inner)) _ _ g.D.Disk.left_since _ _ _ _ _
    c.take_out.ensures.out (rw c.into_ended-ended.ensures.nodes (c.into_ended-ended.ensures.record
    script taken))

pub returns-clause-logs : goal.returns-clause-logs
returns-clause-logs g c =
    disks_are_logs _ (λ node. MayRead (Openings (g.D.Disk.left_since node.log.log.disk.inner))
    (g.D.Disk.moment node.log.log.disk.inner)) _ _ g.D.Disk.left_since _ _
    c.take_out.ensures.out

pub returns-clause-later : goal.returns-clause-later
returns-clause-later g c = rw (← c.into_ended-ended.ensures.nodes) c.take_out.ensures.later
