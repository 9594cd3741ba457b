-- The letters that are put next are put.
use Rattle.std.proofs.Common.{refl}
use Rattle.cam_cluster.proofs.AsSeen.{part, reads_at, tells_of}
use Rattle.cam_cluster.proofs.DisksGoOn.{goes_on_still}
use Rattle.cam_cluster.proofs.PutWorks.{room_made}
use Rattle.cam_cluster.proofs.works.Works.put_letters.Goals as goal

pub put_all-requires : goal.put_all-requires
put_all-requires g c =
    c.requires.writable

pub returns-clause-disks : goal.returns-clause-disks
returns-clause-disks g c =
    goes_on_still

pub returns-clause-as_before : goal.returns-clause-as_before
returns-clause-as_before g c =
    room_made (part g.L.CheckpointLog g.L.EntryLog) _ (reads_at g.L.CheckpointLog g.L.EntryLog) _
    _ _ _ _ _ _ _ _ _ _ _ _ _ refl c.put_all.ensures.some refl refl refl refl refl

pub returns-clause-all : goal.returns-clause-all
returns-clause-all g c =
    c.put_all.ensures.all

pub returns-clause-nodes : goal.returns-clause-nodes
returns-clause-nodes g c =
    refl

pub returns-clause-halted : goal.returns-clause-halted
returns-clause-halted g c =
    refl
