-- Whatever a crash may leave of the disk opens as the entries of the log.
use Rattle.std.proofs.Common.{ℕ, subst}
use Rattle.cam_log.specs.Moments.{OpeningsBy}
use Rattle.cam_ckpt.specs.Reading.{read_ckpt}
use Rattle.cam_storm_node.proofs.storm_node.DiskStormNode+D+W.into_disk.Goals as goal

pub returns-clause-rest : goal.returns-clause-rest
returns-clause-rest g c awake image left =
    let there =
    subst (λ d. g.D.Disk.left_since d (g.D.Disk.moment d) image) c.into_inner.ensures left in
    c.into_node.ensures.rest awake (read_ckpt image)
    (subst
    (λ (t : ℕ).
    OpeningsBy read_ckpt (g.D.Disk.left_since c.into_node.result.log.log.disk.inner) t
    (read_ckpt image)) c.into_disk.ensures.moment
    (c.into_disk.ensures.opens_since _ image there))
