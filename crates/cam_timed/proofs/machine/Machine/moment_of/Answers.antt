use Rattle.std.proofs.Common.{◌-◌, List, get_or, ap, ◌∙◌}
use Rattle.cam_timed.specs.declared.machine.Node.{Node}
use Rattle.cam_timed.proofs.Machines.{node_there}
use Rattle.cam_timed.proofs.machine.Machine.moment_of.Goals as goal

pub returns-in-Some : goal.returns-in-Some
returns-in-Some c = λ objects t keeps.
    (node_there objects t c.args.self.now.nodes.items c.args.node c.in-Some.node.now keeps.eight
    keeps.nodes c.requires.node
    (c.in-Some.ensures.lookup.1
    ∙ ap (λ (nodes : List Node). get_or nodes (c.args.node - 1) c.in-Some.node.now)
    c.deref.ensures.value)).moment
