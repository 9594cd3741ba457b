-- An action calls an object.
use Rattle.std.proofs.Common.{◌+◌, ap, ◌∙◌, arith}
use Rattle.cam_type.specs.Objects.{site_of}
use Rattle.cam_know.specs.Knowledge.{Knowledge}
use Rattle.cam_know.specs.Known.{known_count}
use Rattle.cam_event.specs.declared.Want.TheVariants as wants
use Rattle.cam_locks.specs.Site.{TableView}
use Rattle.cam_tranman.specs.Tables as tranman
use Rattle.cam_node.specs.Calls.{answers, AreSame}
use Rattle.cam_node.proofs.Idle.{same_of}
use Rattle.cam_node.proofs.Steps.{failed, with_actions, free_then, is_stopped}
use Rattle.cam_node.proofs.Called.{calls_on, few_calls_then}
use Rattle.cam_node.proofs.state.Core.call.Goals as goal

pub returns-in_err-settle-clause-err : goal.returns-in_err-settle-clause-err
returns-in_err-settle-clause-err c =
    failed c.from_residual.result (AreSame (answers c.args.self.now) (answers c.settle.new.self))
    (same_of (answers c.args.self.now) (answers c.settle.new.self) c.settle.ensures.same)

pub returns-in_err-stepped-in-None-clause-err : goal.returns-in_err-stepped-in-None-clause-err
returns-in_err-stepped-in-None-clause-err c =
    failed c.from_residual-in_err-stepped-in-None.result
    (AreSame (answers c.args.self.now) (answers c.settle.new.self))
    (same_of (answers c.args.self.now) (answers c.settle.new.self) c.settle.ensures.same)

pub returns-in-Some-clause-step : goal.returns-in-Some-clause-step
returns-in-Some-clause-step c = λ objects.
    is_stopped objects (answers c.args.self.now)
    (answers c.settle.new.self) c.settle.new.self.knowing.known c.args.action.now
    (wants.Call c.args.object c.args.op.now) c.in-Some.reason c.stopped.result.event
    c.settle.ensures.same c.in_ok-settle.ensures.ok c.in_ok-settle.ensures.counts c.requires.free
    c.in-Some.ensures c.stopped.ensures.event

pub returns-in_err-call-in-None-clause-err : goal.returns-in_err-call-in-None-clause-err
returns-in_err-call-in-None-clause-err c =
    failed c.from_residual-in_err-call-in-None.result _
    (with_actions (answers c.args.self.now) (answers c.settle.new.self)
    (tranman.answers c.call.new.self) c.settle.ensures.same c.in_err-call-in-None.ensures.err)

pub returns-in_ok-call-in-None-clause-step : goal.returns-in_ok-call-in-None-clause-step
returns-in_ok-call-in-None-clause-step c = λ objects.
    calls_on objects (answers c.args.self.now)
    (answers c.settle.new.self) c.settle.new.self.knowing.known
    (tranman.answers c.call.new.self) c.args.action.now
    (c.calls.result + 1) c.in_ok-call-in-None.field-0 c.args.object c.args.op.now
    c.site_of-site.result c.count-count.result c.deps_of-deps.result
    c.in_ok-stepped-in-None.stepped.event
    c.settle.ensures.same c.in_ok-settle.ensures.ok c.in_ok-settle.ensures.counts c.requires.free
    c.in-None.ensures
    (c.site_of-site.ensures ∙ ap (λ (t : TableView). site_of t.site.objects c.args.object)
    c.table.ensures)
    (c.count-count.ensures.value ∙ ap
    (λ (k : Knowledge). known_count k c.site_of-site.result) c.know.ensures)
    (ap (λ n. n + 1) c.calls.ensures) c.in_ok-call-in-None.ensures.value c.deps_of-deps.ensures
    c.in_ok-stepped-in-None.ensures.event
    c.in_ok-call-in-None.ensures.ok

pub overflow_add-call : goal.overflow_add-call
overflow_add-call c =
    let few = few_calls_then (answers c.args.self.now)
    (answers c.settle.new.self) c.args.action.now c.settle.ensures.same c.requires.few in
    omega (arith, few, c.calls.ensures)

pub call-requires-clause-free : goal.call-requires-clause-free
call-requires-clause-free c =
    free_then (answers c.args.self.now) (answers c.settle.new.self) c.args.action.now
    (wants.Call c.args.object c.args.op.now) c.settle.ensures.same c.requires.free

pub call-requires-clause-number : goal.call-requires-clause-number
call-requires-clause-number c =
    few_calls_then (answers c.args.self.now)
    (answers c.settle.new.self) c.args.action.now c.settle.ensures.same c.requires.few
