-- The disks of all nodes.
use Rattle.std.proofs.Common.{◌∙◌, sym, subst, ap, arith}
use Rattle.cam_ckpt.specs.Moments.{Openings}
use Rattle.cam_ckpt.specs.Reading.{read_ckpt}
use Rattle.cam_node.specs.Calls.{answers}
use Rattle.cam_cluster.proofs.FoundedDisks.{later_last, seen_last}
use Rattle.cam_cluster.proofs.TakenOut.{disk_reads, out_last, out_within}
use Rattle.cam_cluster.proofs.founding.+take_out.Goals as goal

pub returns-in-Some-clause-out : goal.returns-in-Some-clause-out
returns-in-Some-clause-out g t c =
    out_last _ _ _ _ _ _ c.in-Some.ensures.items c.push_owned.ensures.items
    c.take_out.ensures.out (out_within c.into_disk.result _ c.into_inner.ensures (record {
      told = c.into_disk.ensures.tells;
      less = λ logged read. disk_reads c.into_disk.ensures.opens_since c.into_disk.ensures.moment _
          read;
      readable = λ image told left. c.in-Some.node.log.readable (read_ckpt image) (sym
          c.into_disk.ensures.tells ∙ told) (rw (← c.into_disk.ensures.moment)
          (c.into_disk.ensures.opens_since _ image left));
    }))

pub returns-in-Some-clause-later : goal.returns-in-Some-clause-later
returns-in-Some-clause-later g t c =
    later_last _ _ _ _ _ _ _ _ _ _ (seen_last (λ node. record {
      site = record { node = answers node.core; entries = node.log.log.state.entries };
      objects = node.objects;
      halted = node.log.halted;
      halted_at = node.halted_at;
      passes = node.log.log.disk.passes;
      reads = read_ckpt (g.D.Disk.seen node.log.log.disk.inner);
      tells = g.D.Disk.tells node.log.log.disk.inner;
      failures = g.D.Disk.faults node.log.log.disk.inner;
    }) _ _ _ c.in-Some.ensures.items) c.push_owned.ensures.items c.take_out.ensures.later (record {
      told = ap g.D.Disk.tells c.into_inner.ensures ∙ c.into_disk.ensures.tells;
      later =
          let same = ap g.D.Disk.faults c.into_inner.ensures ∙ c.into_disk.ensures.faults_within in
          omega (arith, same);
    })
