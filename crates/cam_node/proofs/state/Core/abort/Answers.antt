-- An action asks to abort.
use Rattle.cam_event.specs.declared.Want.TheVariants as wants
use Rattle.cam_tranman.specs.Tables as tranman
use Rattle.cam_node.specs.Calls.{answers, AreSame}
use Rattle.cam_node.proofs.Idle.{same_of}
use Rattle.cam_node.proofs.Steps.{failed, free_then, is_stopped, aborts_on}
use Rattle.cam_node.proofs.state.Core.abort.Goals as goal

pub returns-in_err-settle-clause-err : goal.returns-in_err-settle-clause-err
returns-in_err-settle-clause-err c =
    failed c.from_residual.result (AreSame (answers c.args.self.now) (answers c.settle.new.self)) (same_of (answers c.args.self.now) (answers c.settle.new.self) c.settle.ensures.same)

pub returns-in_err-stepped-in-None-clause-err : goal.returns-in_err-stepped-in-None-clause-err
returns-in_err-stepped-in-None-clause-err c =
    failed c.from_residual-in_err-stepped-in-None.result (AreSame (answers c.args.self.now) (answers c.settle.new.self))
    (same_of (answers c.args.self.now) (answers c.settle.new.self) c.settle.ensures.same)

pub returns-in-Some-clause-step : goal.returns-in-Some-clause-step
returns-in-Some-clause-step c = λ objects.
    is_stopped objects (answers c.args.self.now) (answers c.settle.new.self) c.settle.new.self.knowing.known c.args.action.now wants.Abort c.in-Some.reason c.stopped.result.event
    c.settle.ensures.same c.in_ok-settle.ensures.ok c.in_ok-settle.ensures.counts c.requires c.in-Some.ensures c.stopped.ensures.event

pub quit-requires : goal.quit-requires
quit-requires c = free_then (answers c.args.self.now) (answers c.settle.new.self) c.args.action.now wants.Abort c.settle.ensures.same c.requires

pub returns-in_ok-stepped-in-None-clause-step : goal.returns-in_ok-stepped-in-None-clause-step
returns-in_ok-stepped-in-None-clause-step c = λ objects.
    aborts_on objects (answers c.args.self.now) (answers c.settle.new.self) c.settle.new.self.knowing.known (tranman.answers c.quit.new.self) c.args.action.now
    c.in_ok-stepped-in-None.stepped.event c.settle.ensures.same c.in_ok-settle.ensures.ok c.in_ok-settle.ensures.counts c.requires c.in-None.ensures
    c.in_ok-stepped-in-None.ensures.event c.quit.ensures
