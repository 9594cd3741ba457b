-- The disks at their places, and what is told of them.
use Rattle.cam_ckpt.specs.Moments.{Openings}
use Rattle.cam_node.specs.Opened.{MayRead}
use Rattle.cam_cluster.proofs.LogsKept.{disks_are_logs, tells_of_disks}
use Rattle.cam_cluster.proofs.cluster.Cluster+Ckpt+StopDisk+D.into_disks.Goals as goal

pub returns-clause-tells : goal.returns-clause-tells
returns-clause-tells g c seen stands =
    tells_of_disks _ (λ node. MayRead (Openings (g.D.Disk.left_since node.log.log.disk.inner))
    (g.D.Disk.moment node.log.log.disk.inner)) _ _ g.D.Disk.left_since seen _ _ _
    c.take_out.ensures.out (c.tells.ensures seen stands)

pub returns-clause-logs : goal.returns-clause-logs
returns-clause-logs g c =
    disks_are_logs _ (λ node. MayRead (Openings (g.D.Disk.left_since node.log.log.disk.inner))
    (g.D.Disk.moment node.log.log.disk.inner)) _ _ g.D.Disk.left_since _ _
    c.take_out.ensures.out
