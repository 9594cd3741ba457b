-- A node's disk is stopped.
use Rattle.std.proofs.Common.{refl, arith, rules}
use Rattle.std.proofs.lemmas.Grind.{common_steps}
use Rattle.cam_node.specs.Calls.{answers}
use Rattle.cam_cluster.proofs.AsSeen.{part, reads_at, tells_of}
use Rattle.cam_cluster.proofs.DiskChanges.{stopped_in}
use Rattle.cam_cluster.proofs.LessRead.{stays_reads}
use Rattle.cam_cluster.proofs.OneDiskCalled.{stays_at}
use Rattle.cam_cluster.proofs.works.Works.stop_after.Goals as goal

pub index_mut-requires : goal.index_mut-requires
index_mut-requires g c =
    first_of (search rules, grind (arith, common_steps, c.requires))

pub returns-clause-stopped : goal.returns-clause-stopped
returns-clause-stopped g c =
    stopped_in _ _ (reads_at g.L.CheckpointLog g.L.EntryLog) _ _ _ _ _ _ _ _ _ _ _ _
    c.requires c.index_mut.ensures.value refl (λ i. record {
      site = record {
        node = answers (c.stop_after.ensures.core i);
        entries = c.stop_after.ensures.listed i;
      };
      objects = c.stop_after.ensures.objects i;
      halted = c.stop_after.ensures.halted i;
      halted_at = c.stop_after.ensures.halted_at i;
      passes = c.stop_after.ensures.passes i;
      reads = c.stop_after.ensures.reads i;
      tells = c.stop_after.ensures.tells i;
      failures = c.stop_after.ensures.faults_within i;
    }) c.stop_after.ensures.tells (λ logged read. stays_reads _ _ _ _ _ _ _ _ _
    c.stop_after.ensures.stays read)

pub returns-clause-disks : goal.returns-clause-disks
returns-clause-disks g c =
    stays_at _ _ _ _ _ _ c.requires c.index_mut.ensures.value c.stop_after.ensures.tells
    c.stop_after.ensures.faults_within
