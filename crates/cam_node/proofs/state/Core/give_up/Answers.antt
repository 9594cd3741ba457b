-- An action gives up a child.
use Rattle.std.proofs.Common.{None, refl, sym, ◌∙◌, subst, arith}
use Rattle.std.proofs.lemmas.Result.{IfOk-weaker}
use Rattle.cam_know.specs.Knowledge.{Knowledge}
use Rattle.cam_comman.specs.Letters.{IsWithin}
use Rattle.cam_event.specs.Loads.{no_load}
use Rattle.cam_node.specs.Calls.{answers}
use Rattle.cam_node.specs.GivingUp.{giving_up, IsGivenUp}
use Rattle.cam_node.specs.Planned.{MayBeAdded}
use Rattle.cam_node.specs.Opened.{IsKnowledge}
use Rattle.cam_node.specs.Plans.{IsPlan}
use Rattle.cam_node.specs.Standing.{MayStand}
use Rattle.cam_node.specs.Represents.{Node}
use Rattle.cam_node.proofs.Idle.{same_of}
use Rattle.cam_node.proofs.GiveUpPlan.{given_up_plan, given_up_may}
use Rattle.cam_node.proofs.StoppedPlan.{stopped_plan}
use Rattle.cam_node.proofs.state.Core.give_up.Goals as goal

pub returns-in_err-settle-clause-same : goal.returns-in_err-settle-clause-same
returns-in_err-settle-clause-same c = same_of (answers c.args.self.now) (answers c.settle.new.self) c.settle.ensures.same

pub returns-in-Some-clause-same : goal.returns-in-Some-clause-same
returns-in-Some-clause-same c = same_of (answers c.args.self.now) (answers c.settle.new.self) c.settle.ensures.same

pub returns-in-Some-clause-plan : goal.returns-in-Some-clause-plan
returns-in-Some-clause-plan c = λ objects.
    let mid = c.settle.new.self in
    let settled = c.in_ok-settle.ensures.ok in
    let knows =
    subst (λ (n : Node). IsKnowledge n.know) c.settle.ensures.same
    (subst IsKnowledge (c.know.ensures ∙ settled) c.is_knowledge.ensures) in
    stopped_plan objects c.args.action.now c.args.child.now (answers c.args.self.now) (answers mid) mid.knowing.known c.in-Some.reason
    (record { stepped = c.stopped.result; heard = _; change = _; adds = _ }) c.settle.ensures.same settled knows c.requires
    (sym c.in-Some.is ∙ c.orphan_at_home.ensures) c.stopped.ensures.event c.stopped.ensures.letters refl refl refl

pub returns-in-Some-clause-may : goal.returns-in-Some-clause-may
returns-in-Some-clause-may c =
    let settled = c.in_ok-settle.ensures.ok in
    record {
      room = omega arith;
      within = subst (λ (k : Knowledge). IsWithin k c.settle.new.self.knowing.places) (sym settled) c.places-places.ensures.within;
      change = tt;
    }

pub returns-in-None-clause-plan : goal.returns-in-None-clause-plan
returns-in-None-clause-plan c = λ objects.
    let mid = c.settle.new.self in
    let settled = c.in_ok-settle.ensures.ok in
    let knows =
    subst (λ (n : Node). IsKnowledge n.know) c.settle.ensures.same
    (subst IsKnowledge (c.know.ensures ∙ settled) c.is_knowledge.ensures) in
    IfOk-weaker c.gives_up.result (λ plan. IsGivenUp c.args.action.now c.args.child.now mid c.gives_up.new.self plan)
    (λ plan.
    IsPlan objects (giving_up c.args.action.now c.args.child.now) None no_load plan c.gives_up.new.self.knowing.known
    (answers c.args.self.now) (answers c.gives_up.new.self))
    (λ plan made.
    given_up_plan objects c.args.action.now c.args.child.now (answers c.args.self.now) mid c.gives_up.new.self plan c.settle.ensures.same
    settled knows c.requires (sym c.in-None.is ∙ c.orphan_at_home.ensures) c.gives_up.ensures.same made)
    c.gives_up.ensures.given_up

pub returns-in-None-clause-may : goal.returns-in-None-clause-may
returns-in-None-clause-may c =
    IfOk-weaker c.gives_up.result (λ plan. IsGivenUp c.args.action.now c.args.child.now c.settle.new.self c.gives_up.new.self plan)
    (λ plan. MayStand plan c.gives_up.new.self)
    (λ plan made.
    given_up_may c.args.action.now c.args.child.now (answers c.args.self.now) c.settle.new.self c.gives_up.new.self plan c.settle.ensures.same
    c.requires made)
    c.gives_up.ensures.given_up

pub returns-in-None-clause-adds : goal.returns-in-None-clause-adds
returns-in-None-clause-adds c =
    IfOk-weaker c.gives_up.result (λ plan. IsGivenUp c.args.action.now c.args.child.now c.settle.new.self c.gives_up.new.self plan)
    (λ plan. MayBeAdded plan.adds)
    (λ plan made. subst MayBeAdded (sym made.adds) (tt, tt))
    c.gives_up.ensures.given_up
