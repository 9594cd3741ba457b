-- A request of an action.
use Rattle.std.proofs.Common.{[], ◌≡◌, ◌∙◌, ℤ, None, IfOk, ap, rules, sym, subst}
use mir.Val.{to_z, of_z}
use mir.Syntax.{w64}
use Rattle.cam_event.specs.declared.Want.{Want}
use Rattle.cam_event.specs.declared.Want.TheVariants.{Commit}
use Rattle.cam_event.specs.Inputs.{Requests}
use Rattle.cam_event.specs.Loads.{no_load}
use Rattle.cam_node.specs.Calls.{answers}
use Rattle.cam_node.specs.Halting.{IsStepThrough}
use Rattle.cam_node.proofs.TakenPlans.{number_kept}
use Rattle.cam_node.proofs.state.Core.request.Goals as goal

pub returns-in-Ask-clause-step : goal.returns-in-Ask-clause-step
returns-in-Ask-clause-step c = λ objects.
    subst (λ (w : Want). IfOk c.ask.result (λ stepped. IsStepThrough objects (answers
    c.args.self.now) (answers c.ask.new.self)
    (Requests (record { action = c.args.request.now.action; want = w })) None no_load
    stepped.event)) (sym c.in-Ask.is) (c.ask.ensures.step objects)

pub returns-in-Commit-clause-step : goal.returns-in-Commit-clause-step
returns-in-Commit-clause-step c = λ objects.
    let whole : to_z w64 (of_z w64 c.in-Commit.value) ≡ c.in-Commit.value = search rules in
    subst (λ (w : Want). IfOk c.commit.result (λ stepped. IsStepThrough objects (answers
    c.args.self.now) (answers c.commit.new.self)
    (Requests (record { action = c.args.request.now.action; want = w })) None no_load
    stepped.event)) (sym (c.in-Commit.is ∙ ap (λ (v : ℤ). Commit v) (sym whole)))
    (c.commit.ensures.step objects)

pub returns-in-Abort-clause-step : goal.returns-in-Abort-clause-step
returns-in-Abort-clause-step c = λ objects.
    subst (λ (w : Want). IfOk c.abort.result (λ stepped. IsStepThrough objects (answers
    c.args.self.now) (answers c.abort.new.self)
    (Requests (record { action = c.args.request.now.action; want = w })) None no_load
    stepped.event)) (sym c.in-Abort.is) (c.abort.ensures.step objects)

pub returns-in-Ask-clause-number : goal.returns-in-Ask-clause-number
returns-in-Ask-clause-number c =
    number_kept c.ask.result [] (answers c.args.self.now) (answers c.ask.new.self) _ None no_load
    (c.ask.ensures.step []) c.ask.ensures.err

pub returns-in-Commit-clause-number : goal.returns-in-Commit-clause-number
returns-in-Commit-clause-number c =
    number_kept c.commit.result [] (answers c.args.self.now) (answers c.commit.new.self) _ None
    no_load (c.commit.ensures.step []) c.commit.ensures.err

pub returns-in-Abort-clause-number : goal.returns-in-Abort-clause-number
returns-in-Abort-clause-number c =
    number_kept c.abort.result [] (answers c.args.self.now) (answers c.abort.new.self) _ None
    no_load (c.abort.ensures.step []) c.abort.ensures.err

pub returns-in-Call-clause-step : goal.returns-in-Call-clause-step
returns-in-Call-clause-step c = λ objects.
    subst (λ (w : Want). IfOk c.call.result (λ stepped. IsStepThrough objects (answers
    c.args.self.now) (answers c.call.new.self)
    (Requests (record { action = c.args.request.now.action; want = w })) None no_load
    stepped.event)) (sym c.in-Call.is) (c.call.ensures.step objects)

pub returns-in-Call-clause-number : goal.returns-in-Call-clause-number
returns-in-Call-clause-number c =
    number_kept c.call.result [] (answers c.args.self.now) (answers c.call.new.self) _ None no_load
    (c.call.ensures.step []) c.call.ensures.err
