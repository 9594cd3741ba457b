-- The node tells another.
use Rattle.cam_node.specs.Calls.{answers}
use Rattle.cam_node.proofs.Steps.{tells}
use Rattle.cam_node.proofs.state.Core.tell.Goals as goal

pub returns-clause-step : goal.returns-clause-step
returns-clause-step c = λ objects.
    tells objects (answers c.args.self.now) (answers c.settle.new.self) c.settle.new.self.knowing.known c.args.to c.in_ok-stepped.stepped.event c.settle.ensures.same
    c.in_ok-settle.ensures.ok c.in_ok-settle.ensures.counts c.in_ok-stepped.ensures.event
