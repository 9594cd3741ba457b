-- A top action quits.
use Rattle.std.proofs.Common.{sym, ◌∙◌, subst}
use Rattle.std.proofs.lemmas.Result.{IfOk-weaker}
use Rattle.cam_know.specs.declared.Outcome.TheVariants.{Aborted}
use Rattle.cam_event.specs.declared.Note.TheVariants as notes
use Rattle.cam_node.specs.declared.did.Doing.{Doing}
use Rattle.cam_node.specs.Calls.{answers}
use Rattle.cam_node.specs.DecideRules.{news_to}
use Rattle.cam_node.specs.Plans.{IsPlanFor}
use Rattle.cam_node.specs.Standing.{MayStand}
use Rattle.cam_node.specs.Planning.{IsMade, IsMadeDeciding}
use Rattle.cam_node.proofs.LetterPlans.{deciding_may, same_then}
use Rattle.cam_node.proofs.TopPlans.{top_quit_late_plan, top_quit_plan, top_may}
use Rattle.cam_node.proofs.state.Core.top_quits.Goals as goal

pub returns-then-is_closed-clause-plan : goal.returns-then-is_closed-clause-plan
returns-then-is_closed-clause-plan c = λ objects.
    let core = c.receive.new.self in
    IfOk-weaker c.planned.result
    (λ plan. IsMade core c.args.id.now c.in_ok-learnt.learnt c.nothing_but.result plan)
    (λ plan. IsPlanFor objects c.args.id.now c.args.letter.now c.args.self.now core plan)
    (λ plan made.
    top_quit_late_plan objects c.args.id.now c.args.letter.now c.args.self.now core c.in_ok-learnt.learnt c.args.action.now plan
    c.requires.from c.requires.body c.requires.top c.in_ok-learnt.ensures.received (sym c.is_closed.ensures ∙ c.if-is_closed.true)
    (subst (λ (d : Doing). IsMade core c.args.id.now c.in_ok-learnt.learnt d plan) c.nothing_but.ensures made))
    c.planned.ensures

pub returns-clause-same : goal.returns-clause-same
returns-clause-same c =
    same_then (answers c.args.self.now) (answers c.receive.new.self) (answers c.decides.new.self) c.receive.ensures.same c.decides.ensures.same

pub returns-clause-plan : goal.returns-clause-plan
returns-clause-plan c = λ objects.
    let core = c.receive.new.self in
    let now = c.decides.new.self in
    IfOk-weaker c.decides.result
    (λ plan. IsMadeDeciding core now c.args.id.now c.in_ok-learnt.learnt (Aborted c.args.action.now) c.in_ok-sent.sent notes.Plain plan)
    (λ plan. IsPlanFor objects c.args.id.now c.args.letter.now c.args.self.now now plan)
    (λ plan made.
    top_quit_plan objects c.args.id.now c.args.letter.now c.args.self.now core now c.in_ok-learnt.learnt c.args.action.now c.in_ok-sent.sent plan
    c.requires.from c.requires.body c.requires.top c.in_ok-learnt.ensures.received (sym c.is_closed.ensures ∙ c.if-is_closed.false)
    (c.in_ok-sent.ensures.exactly ∙ (λ i. news_to core.number (c.deps_of.ensures i))) c.decides.ensures.same c.decides.ensures.actions made)
    c.decides.ensures.made

pub returns-clause-may : goal.returns-clause-may
returns-clause-may c =
    let core = c.receive.new.self in
    let now = c.decides.new.self in
    IfOk-weaker c.decides.result
    (λ plan. IsMadeDeciding core now c.args.id.now c.in_ok-learnt.learnt (Aborted c.args.action.now) c.in_ok-sent.sent notes.Plain plan)
    (λ plan. MayStand plan now)
    (λ plan made.
    deciding_may core now c.args.id.now c.in_ok-learnt.learnt (Aborted c.args.action.now) c.in_ok-sent.sent notes.Plain plan
    (top_may (Aborted c.args.action.now) now c.requires.top) made)
    c.decides.ensures.made
