-- A top action finishes.
use Rattle.std.proofs.Common.{◌≡◌, true, false, ◌||◌, List, ℕ, length, sym, ◌∙◌, subst}
use Rattle.std.proofs.lemmas.Result.{IfOk-weaker}
use Rattle.cam_know.specs.declared.Outcome.TheVariants.{Aborted}
use Rattle.cam_event.specs.declared.Note.TheVariants as notes
use Rattle.cam_tranman.specs.Actions.{deps}
use Rattle.cam_node.specs.declared.did.Doing.{Doing}
use Rattle.cam_node.specs.Calls.{answers}
use Rattle.cam_node.specs.DecideRules.{is_closed, news_to, prepare_to}
use Rattle.cam_node.specs.Plans.{IsPlanFor}
use Rattle.cam_node.specs.Standing.{preparing}
use Rattle.cam_node.specs.Planning.{IsMade, IsMadeDeciding}
use Rattle.cam_node.proofs.LetterPlans.{same_then}
use Rattle.cam_node.proofs.TopPlans.{top_finish_late_plan, top_orphan_plan}
use Rattle.cam_node.proofs.PreparePlan.{top_prepared_plan}
use Rattle.cam_node.proofs.state.Core.top_finishes.Goals.{then-is_closed-via-then-is_closed, then-is_closed-via-else-is_closed+then-is_preparing}
use Rattle.cam_node.proofs.state.Core.top_finishes.Goals as goal

pub returns-then-is_closed-clause-plan : goal.returns-then-is_closed-clause-plan
returns-then-is_closed-clause-plan c = λ objects.
    let core = c.receive.new.self in
    let eight = subst (λ (cs : List ℕ). length cs ≡ 8) c.counts-counts.ensures.value c.counts-counts.ensures.range.eight in
    let late : is_closed core.count core.knowing.known c.args.action.now || (answers core).families.is_preparing c.args.action.now ≡ true =
    elim c.then-is_closed.branch [
      | then-is_closed-via-then-is_closed w ↦
          λ i. (sym c.is_closed.ensures ∙ w.if-is_closed.true) i || (answers core).families.is_preparing c.args.action.now
      | then-is_closed-via-else-is_closed+then-is_preparing w ↦
          λ i. (sym c.is_closed.ensures ∙ w.if-is_closed.false) i || (sym w.is_preparing.ensures ∙ w.if-is_preparing.true) i
    ] in
    IfOk-weaker c.planned.result
    (λ plan. IsMade core c.args.id.now c.in_ok-learnt.learnt c.nothing_but.result plan)
    (λ plan. IsPlanFor objects c.args.id.now c.args.letter.now c.args.self.now core plan)
    (λ plan made.
    top_finish_late_plan objects c.args.id.now c.args.letter.now c.args.self.now core c.in_ok-learnt.learnt c.args.action.now c.args.deps.now plan
    c.requires.from c.requires.body c.requires.top eight c.in_ok-learnt.ensures.received late
    (subst (λ (d : Doing). IsMade core c.args.id.now c.in_ok-learnt.learnt d plan) c.nothing_but.ensures made))
    c.planned.ensures

pub returns-in_ok-sent-in-Some-clause-same : goal.returns-in_ok-sent-in-Some-clause-same
returns-in_ok-sent-in-Some-clause-same c =
    same_then (answers c.args.self.now) (answers c.receive.new.self) (answers c.decides.new.self) c.receive.ensures.same c.decides.ensures.same

pub returns-in_ok-sent-in-Some-clause-plan : goal.returns-in_ok-sent-in-Some-clause-plan
returns-in_ok-sent-in-Some-clause-plan c = λ objects.
    let core = c.receive.new.self in
    let now = c.decides.new.self in
    let eight = subst (λ (cs : List ℕ). length cs ≡ 8) c.counts-counts.ensures.value c.counts-counts.ensures.range.eight in
    let in_time : is_closed core.count core.knowing.known c.args.action.now || (answers core).families.is_preparing c.args.action.now ≡ false =
    λ i. (sym c.is_closed.ensures ∙ c.if-is_closed.false) i || (sym c.is_preparing.ensures ∙ c.if-is_preparing.false) i in
    IfOk-weaker c.decides.result
    (λ plan.
    IsMadeDeciding core now c.args.id.now c.in_ok-learnt.learnt (Aborted c.args.action.now) c.in_ok-sent-in-Some.sent
    (notes.Stopped c.args.action.now c.in-Some.reason) plan)
    (λ plan. IsPlanFor objects c.args.id.now c.args.letter.now c.args.self.now now plan)
    (λ plan made.
    top_orphan_plan objects c.args.id.now c.args.letter.now c.args.self.now core now c.in_ok-learnt.learnt c.args.action.now c.args.deps.now
    c.in-Some.reason c.in_ok-sent-in-Some.sent plan c.requires.from c.requires.body c.requires.top eight c.in_ok-learnt.ensures.received in_time
    (sym c.in-Some.is ∙ c.orphan_then.ensures) (c.in_ok-sent-in-Some.ensures.exactly ∙ (λ i. news_to core.number (c.deps_of.ensures i)))
    c.decides.ensures.same c.decides.ensures.actions made)
    c.decides.ensures.made

pub returns-in-None-clause-same : goal.returns-in-None-clause-same
returns-in-None-clause-same c =
    same_then (answers c.args.self.now) (answers c.receive.new.self) (answers c.prepares.new.self) c.receive.ensures.same c.prepares.ensures.same

pub returns-in-None-clause-plan : goal.returns-in-None-clause-plan
returns-in-None-clause-plan c = λ objects.
    let core = c.receive.new.self in
    let now = c.prepares.new.self in
    let eight = subst (λ (cs : List ℕ). length cs ≡ 8) c.counts-counts.ensures.value c.counts-counts.ensures.range.eight in
    let in_time : is_closed core.count core.knowing.known c.args.action.now || (answers core).families.is_preparing c.args.action.now ≡ false =
    λ i. (sym c.is_closed.ensures ∙ c.if-is_closed.false) i || (sym c.is_preparing.ensures ∙ c.if-is_preparing.false) i in
    IfOk-weaker c.prepares.result
    (λ plan.
    IsMade now c.args.id.now c.in_ok-learnt.learnt
    (preparing c.args.action.now (prepare_to c.args.action.now (deps (answers core).actions c.args.action.now))) plan)
    (λ plan. IsPlanFor objects c.args.id.now c.args.letter.now c.args.self.now now plan)
    (λ plan made.
    top_prepared_plan objects c.args.id.now c.args.letter.now c.args.self.now core now c.in_ok-learnt.learnt c.args.action.now c.args.deps.now plan
    c.requires.from c.requires.body c.requires.top eight c.in_ok-learnt.ensures.received in_time (sym c.in-None.is ∙ c.orphan_then.ensures)
    c.prepares.ensures.same c.prepares.ensures.actions c.prepares.ensures.knows made)
    c.prepares.ensures.made
