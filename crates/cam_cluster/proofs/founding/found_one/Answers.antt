-- One new node.
use Rattle.std.proofs.Common.{Ok, ap}
use Rattle.cam_ckpt.specs.Reading.{read_ckpt}
use Rattle.cam_node.specs.declared.fault.NodeFault.{NodeFault}
use Rattle.cam_node.specs.Calls.{answers}
use Rattle.cam_cluster.proofs.BeforeFirst.{new_node, none_spent}
use Rattle.cam_cluster.proofs.founding.found_one.Goals as goal

pub returns-in-Ok-format-clause-new : goal.returns-in-Ok-format-clause-new
returns-in-Ok-format-clause-new g c =
    new_node {E = NodeFault} (λ node. record {
      site = record { node = answers node.core; entries = node.log.log.state.entries };
      objects = node.objects;
      halted = node.log.halted;
      halted_at = node.halted_at;
      passes = node.log.log.disk.passes;
      reads = read_ckpt (g.D.Disk.seen node.log.log.disk.inner);
      tells = g.D.Disk.tells node.log.log.disk.inner;
      failures = g.D.Disk.faults node.log.log.disk.inner;
    }) (Ok c.in-Ok-format.node) _ _ c.args.number c.in-Ok.ensures c.in-Ok-format.ensures.keeps
    c.in-Ok-format.ensures.number c.in-Ok-format.ensures.objects c.in-Ok-format.ensures.running
    (none_spent {E = NodeFault} (λ node. node.log.log.disk.passes) (Ok c.in-Ok-format.node) 7 _ (ap
    (λ disk. disk.passes) c.new.ensures) c.in-Ok-format.ensures.spent)
