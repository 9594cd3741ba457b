-- The count of the disk of the node at a place is compared with what it was.
use Rattle.std.proofs.Common.{◌+◌, ◌∙◌, sym, ap, subst}
use Rattle.std.specs.Prelude.{IfSome}
use Rattle.cam_cluster.specs.Failing.{IsAfterCall}
use Rattle.cam_cluster.proofs.PlacedNodes.{taken_there}
use Rattle.cam_cluster.proofs.works.Works.failed_since.Goals as goal

pub returns : goal.returns
returns g c =
    rw (taken_there _ _ _ c.requires.there c.index.ensures) (rw (← (c.failures-count.ensures ∙ ap
    g.L.EntryLog.faults_within c.log.ensures)) c.after_call.ensures)

pub after_call-requires : goal.after_call-requires
after_call-requires g c = c.requires.place
