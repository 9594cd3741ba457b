-- An action asks to commit.
use Rattle.std.proofs.Common.{◌≡◌, ℤ, [], None, ap, ◌∙◌, rules}
use mir.Val.{to_z, of_z}
use mir.Syntax.{w64}
use Rattle.cam_event.specs.declared.Body.TheVariants as bodies
use Rattle.cam_event.specs.declared.Deed.TheVariants.{AskCommit}
use Rattle.cam_event.specs.Inputs.{decider}
use Rattle.cam_event.specs.Rules.{did, one, send}
use Rattle.cam_event.specs.ByPast.{event_of}
use Rattle.cam_event.specs.declared.Want.TheVariants as wants
use Rattle.cam_tranman.specs.Tables as tranman
use Rattle.cam_node.specs.Calls.{answers, AreSame}
use Rattle.cam_node.proofs.Idle.{same_of}
use Rattle.cam_node.proofs.Steps.{failed, free_then, is_stopped, commits_on}
use Rattle.cam_node.proofs.state.Core.commit.Goals as goal

pub returns-in_err-settle-clause-err : goal.returns-in_err-settle-clause-err
returns-in_err-settle-clause-err c =
    failed c.from_residual.result (AreSame (answers c.args.self.now) (answers c.settle.new.self)) (same_of (answers c.args.self.now) (answers c.settle.new.self) c.settle.ensures.same)

pub returns-in_err-stepped-in-None-clause-err : goal.returns-in_err-stepped-in-None-clause-err
returns-in_err-stepped-in-None-clause-err c =
    failed c.from_residual-in_err-stepped-in-None.result (AreSame (answers c.args.self.now) (answers c.settle.new.self))
    (same_of (answers c.args.self.now) (answers c.settle.new.self) c.settle.ensures.same)

pub returns-in-Some-clause-step : goal.returns-in-Some-clause-step
returns-in-Some-clause-step c = λ objects.
    is_stopped objects (answers c.args.self.now) (answers c.settle.new.self) c.settle.new.self.knowing.known c.args.action.now (wants.Commit c.args.value) c.in-Some.reason c.stopped.result.event
    c.settle.ensures.same c.in_ok-settle.ensures.ok c.in_ok-settle.ensures.counts c.requires c.in-Some.ensures c.stopped.ensures.event

pub finish-requires : goal.finish-requires
finish-requires c = free_then (answers c.args.self.now) (answers c.settle.new.self) c.args.action.now (wants.Commit c.args.value) c.settle.ensures.same c.requires

pub returns-in_ok-stepped-in-None-clause-step : goal.returns-in_ok-stepped-in-None-clause-step
returns-in_ok-stepped-in-None-clause-step c = λ objects.
    let whole : to_z w64 (of_z w64 c.args.value) ≡ c.args.value = search rules in
    commits_on objects (answers c.args.self.now) (answers c.settle.new.self) c.settle.new.self.knowing.known (tranman.answers c.finish.new.self) c.args.action.now c.args.value
    c.deps_of-deps.result c.in_ok-stepped-in-None.stepped.event c.settle.ensures.same c.in_ok-settle.ensures.ok c.in_ok-settle.ensures.counts c.requires c.in-None.ensures
    c.deps_of-deps.ensures
    (c.in_ok-stepped-in-None.ensures.event
    ∙ ap (λ (v : ℤ). event_of c.settle.new.self.number None [] (did (one (AskCommit c.args.action.now v)) (one (send (decider c.args.action.now) (bodies.Finish c.args.action.now v c.deps_of-deps.result))))) whole)
    c.finish.ensures
