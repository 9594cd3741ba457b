-- A step of a storm node is one of the core.
use Rattle.cam_storm_node.proofs.Cores.{core_stepped}
use Rattle.cam_storm_node.proofs.as_core.StormNodeCore.step.Goals as goal

pub returns-clause-step : goal.returns-clause-step
returns-clause-step g c node history core room item =
    core_stepped g.W.Storming.words g.W.Storming.failures _ _ c.args.input c.in_ok-step_on.field-0
    c.in_ok-step_on.ensures.cause c.in_ok-step_on.ensures.stepped node history core item
