-- The log of a node that is not halted is at rest.
use Rattle.cam_storm_node.proofs.storm_node.StormNode.into_node.Goals as goal

pub returns-clause-rest : goal.returns-clause-rest
returns-clause-rest g c awake opened left =
    let log = c.args.self.node.log.log in
    g.met.L.EntryLog.at_rest log opened (g.met.L.TellingLog.always log)
    (c.args.self.node.log.whole awake) left
