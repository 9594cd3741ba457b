-- What the test takes may be put to the node, where nothing stands against it.
use Rattle.cam_node.specs.Calls.{answers}
use Rattle.cam_node.proofs.MayBePut.{may_be_put_now}
use Rattle.cam_node.proofs.node.Node.may_step.Goals as goal

pub returns-clause-put : goal.returns-clause-put
returns-clause-put g c = λ yes.
    may_be_put_now (answers c.args.self.now.core) c.args.input.now (c.may_step.ensures.0 yes)
