-- A child finishes.
use Rattle.std.proofs.Common.{◌≡◌, true, false, List, [], ℕ, length, Option, refl, sym, ap, ◌∙◌, subst, arith}
use Rattle.std.proofs.lemmas.Result.{IfOk-weaker}
use Rattle.cam_names.specs.Dependencies.{pairs_of}
use Rattle.cam_know.specs.Orphans.{known_orphan}
use Rattle.cam_know.specs.declared.Reason.{Reason}
use Rattle.cam_tranman.specs.Calls.{decides_by}
use Rattle.cam_node.specs.declared.did.Doing.{Doing}
use Rattle.cam_node.specs.Calls.{answers}
use Rattle.cam_node.specs.DecideRules.{outcome_of, note_of}
use Rattle.cam_node.specs.Decides.{decided_action}
use Rattle.cam_node.specs.Planned.{MayBeAdded}
use Rattle.cam_node.specs.Plans.{IsPlanFor}
use Rattle.cam_node.specs.Standing.{MayStand}
use Rattle.cam_node.specs.Planning.{IsMade, IsMadeDeciding}
use Rattle.cam_node.proofs.Adding.{deciding_adds}
use Rattle.cam_node.proofs.ChildPlans.{finish_late_plan, finish_stopped_plan, finish_decided_plan, decided_may, ended_action}
use Rattle.cam_node.proofs.LetterPlans.{same_then, made_as, deciding_may}
use Rattle.cam_node.proofs.state.Core.child_finishes.Goals as goal

pub returns-then-not-decides-clause-plan : goal.returns-then-not-decides-clause-plan
returns-then-not-decides-clause-plan c = λ objects.
    let asked = c.decides.ensures in
    let tested = c.if-not-decides.true in
    let shut : decides_by (answers c.receive.new.self).actions c.args.child.now ≡ false = grind (arith, asked, tested) in
    let eight = subst (λ (cs : List ℕ). length cs ≡ 8) c.counts-counts.ensures.value c.counts-counts.ensures.range.eight in
    IfOk-weaker c.planned.result
    (λ plan. IsMade c.receive.new.self c.args.id.now c.in_ok-learnt.learnt c.nothing_but.result plan)
    (λ plan. IsPlanFor objects c.args.id.now c.args.letter.now c.args.self.now c.receive.new.self plan)
    (λ plan made.
    finish_late_plan objects c.args.id.now c.args.letter.now c.args.self.now c.receive.new.self c.in_ok-learnt.learnt c.args.child.now
    c.args.parent.now c.args.deps.now plan c.requires.from c.requires.body c.requires.parent eight c.in_ok-learnt.ensures.received shut
    (subst (λ (d : Doing). IsMade c.receive.new.self c.args.id.now c.in_ok-learnt.learnt d plan) c.nothing_but.ensures made))
    c.planned.ensures

pub returns-in-Some-clause-plan : goal.returns-in-Some-clause-plan
returns-in-Some-clause-plan c = λ objects.
    let asked = c.decides.ensures in
    let tested = c.if-not-decides.false in
    let awaited : decides_by (answers c.receive.new.self).actions c.args.child.now ≡ true = grind (arith, asked, tested) in
    let eight = subst (λ (cs : List ℕ). length cs ≡ 8) c.counts-counts.ensures.value c.counts-counts.ensures.range.eight in
    IfOk-weaker c.planned-in-Some.result
    (λ plan. IsMade c.receive.new.self c.args.id.now c.in_ok-learnt.learnt c.nothing_but-in-Some.result plan)
    (λ plan. IsPlanFor objects c.args.id.now c.args.letter.now c.args.self.now c.receive.new.self plan)
    (λ plan made.
    finish_stopped_plan objects c.args.id.now c.args.letter.now c.args.self.now c.receive.new.self c.in_ok-learnt.learnt c.args.child.now
    c.args.parent.now c.args.deps.now c.in-Some.reason plan c.requires.from c.requires.body c.requires.parent eight
    c.in_ok-learnt.ensures.received awaited (sym c.in-Some.is ∙ c.orphan_then.ensures)
    (subst (λ (d : Doing). IsMade c.receive.new.self c.args.id.now c.in_ok-learnt.learnt d plan) c.nothing_but-in-Some.ensures made))
    c.planned-in-Some.ensures

pub returns-in-None-clause-same : goal.returns-in-None-clause-same
returns-in-None-clause-same c =
    same_then (answers c.args.self.now) (answers c.receive.new.self) (answers c.decides-in-None.new.self) c.receive.ensures.same c.decides-in-None.ensures.same

pub returns-in-None-clause-plan : goal.returns-in-None-clause-plan
returns-in-None-clause-plan c = λ objects.
    let asked = c.decides.ensures in
    let tested = c.if-not-decides.false in
    let awaited : decides_by (answers c.receive.new.self).actions c.args.child.now ≡ true = grind (arith, asked, tested) in
    let eight = subst (λ (cs : List ℕ). length cs ≡ 8) c.counts-counts.ensures.value c.counts-counts.ensures.range.eight in
    let r : Option Reason = known_orphan c.receive.new.self.knowing.known c.args.child.now (pairs_of c.args.deps.now) in
    let ends = c.ends_so-outcome in
    IfOk-weaker c.decides-in-None.result
    (λ plan.
    IsMadeDeciding c.receive.new.self c.decides-in-None.new.self c.args.id.now c.in_ok-learnt.learnt ends.result.0 c.new.result ends.result.1 plan)
    (λ plan. IsPlanFor objects c.args.id.now c.args.letter.now c.args.self.now c.decides-in-None.new.self plan)
    (λ plan made.
    finish_decided_plan objects c.args.id.now c.args.letter.now c.args.self.now c.receive.new.self c.decides-in-None.new.self
    c.in_ok-learnt.learnt c.args.child.now c.args.parent.now c.args.deps.now r plan c.requires.from c.requires.body c.requires.parent eight
    c.in_ok-learnt.ensures.received awaited (sym c.in-None.is ∙ c.orphan_then.ensures) refl c.decides-in-None.ensures.same
    c.decides-in-None.ensures.actions
    (made_as c.receive.new.self c.decides-in-None.new.self c.args.id.now c.in_ok-learnt.learnt ends.result.0
    (outcome_of c.args.child.now c.args.deps.now r) c.new.result [] ends.result.1 (note_of c.args.child.now r) plan ends.ensures.outcome
    c.new.ensures ends.ensures.note made))
    c.decides-in-None.ensures.made

pub returns-in-None-clause-may : goal.returns-in-None-clause-may
returns-in-None-clause-may c =
    let asked = c.decides.ensures in
    let tested = c.if-not-decides.false in
    let awaited : decides_by (answers c.receive.new.self).actions c.args.child.now ≡ true = grind (arith, asked, tested) in
    let r : Option Reason = known_orphan c.receive.new.self.knowing.known c.args.child.now (pairs_of c.args.deps.now) in
    let ends = c.ends_so-outcome in
    IfOk-weaker c.decides-in-None.result
    (λ plan.
    IsMadeDeciding c.receive.new.self c.decides-in-None.new.self c.args.id.now c.in_ok-learnt.learnt ends.result.0 c.new.result ends.result.1 plan)
    (λ plan. MayStand plan c.decides-in-None.new.self)
    (λ plan made.
    deciding_may c.receive.new.self c.decides-in-None.new.self c.args.id.now c.in_ok-learnt.learnt ends.result.0 c.new.result ends.result.1 plan
    (decided_may c.args.child.now ends.result.0 c.receive.new.self c.decides-in-None.new.self awaited c.decides-in-None.ensures.actions
    (ap decided_action ends.ensures.outcome ∙ ended_action c.args.child.now c.args.deps.now r))
    made)
    c.decides-in-None.ensures.made

pub returns-in-None-clause-adds : goal.returns-in-None-clause-adds
returns-in-None-clause-adds c =
    let ends = c.ends_so-outcome in
    IfOk-weaker c.decides-in-None.result
    (λ plan. IsMadeDeciding c.receive.new.self c.decides-in-None.new.self c.args.id.now
    c.in_ok-learnt.learnt ends.result.0 c.new.result ends.result.1 plan)
    (λ plan. MayBeAdded plan.adds)
    (λ plan made.
    deciding_adds c.receive.new.self c.decides-in-None.new.self c.args.id.now c.in_ok-learnt.learnt
    ends.result.0 c.new.result ends.result.1 plan made)
    c.decides-in-None.ensures.made
