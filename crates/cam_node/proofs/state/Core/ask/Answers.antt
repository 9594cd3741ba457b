-- An action asks for a child.
use Rattle.std.proofs.Common.{ap, ◌∙◌}
use Rattle.cam_know.specs.Knowledge.{Knowledge}
use Rattle.cam_know.specs.Known.{known_count}
use Rattle.cam_event.specs.declared.Want.TheVariants as wants
use Rattle.cam_tranman.specs.Tables as tranman
use Rattle.cam_node.specs.Calls.{answers, AreSame}
use Rattle.cam_node.proofs.Idle.{same_of}
use Rattle.cam_node.proofs.Steps.{failed, with_actions, free_then, few_then, is_stopped, asks_on}
use Rattle.cam_node.proofs.state.Core.ask.Goals as goal

pub returns-in_err-settle-clause-err : goal.returns-in_err-settle-clause-err
returns-in_err-settle-clause-err c =
    failed c.from_residual.result (AreSame (answers c.args.self.now) (answers c.settle.new.self)) (same_of (answers c.args.self.now) (answers c.settle.new.self) c.settle.ensures.same)

pub returns-in_err-stepped-in-None-clause-err : goal.returns-in_err-stepped-in-None-clause-err
returns-in_err-stepped-in-None-clause-err c =
    failed c.from_residual-in_err-stepped-in-None.result (AreSame (answers c.args.self.now) (answers c.settle.new.self))
    (same_of (answers c.args.self.now) (answers c.settle.new.self) c.settle.ensures.same)

pub returns-in-Some-clause-step : goal.returns-in-Some-clause-step
returns-in-Some-clause-step c = λ objects.
    is_stopped objects (answers c.args.self.now) (answers c.settle.new.self) c.settle.new.self.knowing.known c.args.action.now (wants.Ask c.args.node) c.in-Some.reason c.stopped.result.event
    c.settle.ensures.same c.in_ok-settle.ensures.ok c.in_ok-settle.ensures.counts c.requires.free c.in-Some.ensures c.stopped.ensures.event

pub next_child-child-requires-clause-free : goal.next_child-child-requires-clause-free
next_child-child-requires-clause-free c = free_then (answers c.args.self.now) (answers c.settle.new.self) c.args.action.now (wants.Ask c.args.node) c.settle.ensures.same c.requires.free

pub next_child-child-requires-clause-few : goal.next_child-child-requires-clause-few
next_child-child-requires-clause-few c = few_then (answers c.args.self.now) (answers c.settle.new.self) c.args.action.now c.settle.ensures.same c.requires.few

pub ask-requires-clause-free : goal.ask-requires-clause-free
ask-requires-clause-free c = free_then (answers c.args.self.now) (answers c.settle.new.self) c.args.action.now (wants.Ask c.args.node) c.settle.ensures.same c.requires.free

pub ask-requires-clause-number : goal.ask-requires-clause-number
ask-requires-clause-number c = few_then (answers c.args.self.now) (answers c.settle.new.self) c.args.action.now c.settle.ensures.same c.requires.few

pub returns-in_err-ask-in-None-clause-err : goal.returns-in_err-ask-in-None-clause-err
returns-in_err-ask-in-None-clause-err c =
    failed c.from_residual-in_err-ask-in-None.result _
    (with_actions (answers c.args.self.now) (answers c.settle.new.self) (tranman.answers c.ask.new.self) c.settle.ensures.same c.in_err-ask-in-None.ensures.err)

pub returns-in_ok-ask-in-None-clause-step : goal.returns-in_ok-ask-in-None-clause-step
returns-in_ok-ask-in-None-clause-step c = λ objects.
    asks_on objects (answers c.args.self.now) (answers c.settle.new.self) c.settle.new.self.knowing.known (tranman.answers c.ask.new.self) c.args.action.now c.next_child-child.result
    c.args.node c.count-count.result c.deps_of-deps.result c.in_ok-stepped-in-None.stepped.event c.settle.ensures.same c.in_ok-settle.ensures.ok c.in_ok-settle.ensures.counts
    c.requires.free c.in-None.ensures (c.count-count.ensures.value ∙ ap (λ (k : Knowledge). known_count k c.args.node) c.know.ensures) c.next_child-child.ensures c.deps_of-deps.ensures
    c.in_ok-stepped-in-None.ensures.event c.in_ok-ask-in-None.ensures.ok
