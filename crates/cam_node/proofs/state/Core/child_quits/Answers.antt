-- A child quits.
use Rattle.std.proofs.Common.{◌≡◌, true, false, List, sym, ◌∙◌, subst, arith}
use Rattle.std.proofs.lemmas.Result.{IfOk-weaker}
use Rattle.cam_know.specs.declared.Outcome.TheVariants.{Aborted}
use Rattle.cam_event.specs.declared.Note.TheVariants as notes
use Rattle.cam_event.specs.declared.Sent.{Sent}
use Rattle.cam_tranman.specs.Calls.{decides_by}
use Rattle.cam_node.specs.declared.did.Doing.{Doing}
use Rattle.cam_node.specs.Calls.{answers}
use Rattle.cam_node.specs.Plans.{IsPlanFor}
use Rattle.cam_node.specs.Planning.{IsMade, IsMadeDeciding}
use Rattle.cam_node.proofs.ChildPlans.{quit_late_plan, quit_stopped_plan, quit_decided_plan}
use Rattle.cam_node.proofs.LetterPlans.{same_then}
use Rattle.cam_node.proofs.state.Core.child_quits.Goals as goal

pub returns-then-not-decides-clause-plan : goal.returns-then-not-decides-clause-plan
returns-then-not-decides-clause-plan c = λ objects.
    let asked = c.decides.ensures in
    let tested = c.if-not-decides.true in
    let shut : decides_by (answers c.receive.new.self).actions c.args.child.now ≡ false = grind (arith, asked, tested) in
    IfOk-weaker c.planned.result
    (λ plan. IsMade c.receive.new.self c.args.id.now c.in_ok-learnt.learnt c.nothing_but.result plan)
    (λ plan. IsPlanFor objects c.args.id.now c.args.letter.now c.args.self.now c.receive.new.self plan)
    (λ plan made.
    quit_late_plan objects c.args.id.now c.args.letter.now c.args.self.now c.receive.new.self c.in_ok-learnt.learnt c.args.child.now
    c.args.parent.now plan c.requires.from c.requires.body c.requires.parent c.in_ok-learnt.ensures.received shut
    (subst (λ (d : Doing). IsMade c.receive.new.self c.args.id.now c.in_ok-learnt.learnt d plan) c.nothing_but.ensures made))
    c.planned.ensures

pub returns-in-Some-clause-plan : goal.returns-in-Some-clause-plan
returns-in-Some-clause-plan c = λ objects.
    let asked = c.decides.ensures in
    let tested = c.if-not-decides.false in
    let awaited : decides_by (answers c.receive.new.self).actions c.args.child.now ≡ true = grind (arith, asked, tested) in
    IfOk-weaker c.planned-in-Some.result
    (λ plan. IsMade c.receive.new.self c.args.id.now c.in_ok-learnt.learnt c.nothing_but-in-Some.result plan)
    (λ plan. IsPlanFor objects c.args.id.now c.args.letter.now c.args.self.now c.receive.new.self plan)
    (λ plan made.
    quit_stopped_plan objects c.args.id.now c.args.letter.now c.args.self.now c.receive.new.self c.in_ok-learnt.learnt c.args.child.now
    c.args.parent.now c.in-Some.reason plan c.requires.from c.requires.body c.requires.parent c.in_ok-learnt.ensures.received awaited
    (sym c.in-Some.is ∙ c.orphan_then.ensures)
    (subst (λ (d : Doing). IsMade c.receive.new.self c.args.id.now c.in_ok-learnt.learnt d plan) c.nothing_but-in-Some.ensures made))
    c.planned-in-Some.ensures

pub returns-in-None-clause-same : goal.returns-in-None-clause-same
returns-in-None-clause-same c =
    same_then (answers c.args.self.now) (answers c.receive.new.self) (answers c.decides-in-None.new.self) c.receive.ensures.same c.decides-in-None.ensures.same

pub returns-in-None-clause-plan : goal.returns-in-None-clause-plan
returns-in-None-clause-plan c = λ objects.
    let asked = c.decides.ensures in
    let tested = c.if-not-decides.false in
    let awaited : decides_by (answers c.receive.new.self).actions c.args.child.now ≡ true = grind (arith, asked, tested) in
    IfOk-weaker c.decides-in-None.result
    (λ plan. IsMadeDeciding c.receive.new.self c.decides-in-None.new.self c.args.id.now c.in_ok-learnt.learnt (Aborted c.args.child.now) c.new.result notes.Plain plan)
    (λ plan. IsPlanFor objects c.args.id.now c.args.letter.now c.args.self.now c.decides-in-None.new.self plan)
    (λ plan made.
    quit_decided_plan objects c.args.id.now c.args.letter.now c.args.self.now c.receive.new.self c.decides-in-None.new.self c.in_ok-learnt.learnt
    c.args.child.now c.args.parent.now plan c.requires.from c.requires.body c.requires.parent c.in_ok-learnt.ensures.received awaited
    (sym c.in-None.is ∙ c.orphan_then.ensures) c.decides-in-None.ensures.same c.decides-in-None.ensures.actions
    (subst (λ (sent : List Sent).
    IsMadeDeciding c.receive.new.self c.decides-in-None.new.self c.args.id.now c.in_ok-learnt.learnt (Aborted c.args.child.now) sent notes.Plain plan)
    c.new.ensures made))
    c.decides-in-None.ensures.made
