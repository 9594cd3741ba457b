-- A top action is begun.
use Rattle.cam_tranman.specs.Tables as tranman
use Rattle.cam_node.specs.Calls.{answers, AreSame}
use Rattle.cam_node.proofs.Idle.{same_of}
use Rattle.cam_node.proofs.Steps.{failed, with_actions, begins_top}
use Rattle.cam_node.proofs.state.Core.begin.Goals as goal

pub returns-in_err-settle-clause-err : goal.returns-in_err-settle-clause-err
returns-in_err-settle-clause-err c =
    failed c.from_residual.result (AreSame (answers c.args.self.now) (answers c.settle.new.self)) (same_of (answers c.args.self.now) (answers c.settle.new.self) c.settle.ensures.same)

pub returns-in_err-deeds-clause-err : goal.returns-in_err-deeds-clause-err
returns-in_err-deeds-clause-err c =
    failed c.from_residual-in_err-deeds.result (AreSame (answers c.args.self.now) (answers c.settle.new.self))
    (same_of (answers c.args.self.now) (answers c.settle.new.self) c.settle.ensures.same)

pub returns-in_err-action-clause-err : goal.returns-in_err-action-clause-err
returns-in_err-action-clause-err c =
    failed c.from_residual-in_err-action.result _
    (with_actions (answers c.args.self.now) (answers c.settle.new.self) (tranman.answers c.begin.new.self) c.settle.ensures.same c.in_err-action.ensures.err)

pub returns-clause-step : goal.returns-clause-step
returns-clause-step c = λ objects.
    begins_top objects (answers c.args.self.now) (answers c.settle.new.self) c.settle.new.self.knowing.known (tranman.answers c.begin.new.self) c.in_ok-action.action
    c.created.result.event c.settle.ensures.same c.in_ok-settle.ensures.ok c.in_ok-settle.ensures.counts c.in_ok-action.ensures.name c.created.ensures.event c.in_ok-action.ensures.ok
