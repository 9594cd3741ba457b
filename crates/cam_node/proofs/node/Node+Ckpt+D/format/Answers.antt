-- A node to which nothing has happened, and the log that was formatted for it.
use Rattle.cam_node.specs.Calls.{answers}
use Rattle.cam_node.proofs.FormattedNodes.{formatted}
use Rattle.cam_node.proofs.node.Node+Ckpt+D.format.Goals as goal

pub returns-clause-keeps : goal.returns-clause-keeps
returns-clause-keeps g c =
    formatted c.args.objects c.args.number (answers c.in-Ok.core) _ c.requires
    c.in-Ok.ensures.number c.in-Ok.ensures.represents c.in-Ok.ensures.next
    c.in-Ok-format.ensures.entries
