-- The node asks the home of a family.
use Rattle.cam_node.specs.Calls.{answers}
use Rattle.cam_node.proofs.Steps.{asks_home}
use Rattle.cam_node.proofs.state.Core.query.Goals as goal

pub returns-clause-step : goal.returns-clause-step
returns-clause-step c = λ objects.
    asks_home objects (answers c.args.self.now) (answers c.settle.new.self) c.settle.new.self.knowing.known c.args.family.now c.home_of-home.result c.in_ok-stepped.stepped.event
    c.settle.ensures.same c.in_ok-settle.ensures.ok c.in_ok-settle.ensures.counts c.home_of-home.ensures.value c.in_ok-stepped.ensures.event
