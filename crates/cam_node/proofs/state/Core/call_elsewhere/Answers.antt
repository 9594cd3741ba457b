-- A call comes that is not for the node.
use Rattle.std.proofs.Common.{◌≡◌, false, None, sym, ap, ◌∙◌, subst}
use Rattle.std.proofs.lemmas.Result.{IfOk-weaker}
use Rattle.cam_node.specs.declared.did.Doing.{Doing}
use Rattle.cam_node.specs.declared.plan.Change.{Change}
use Rattle.cam_node.specs.Ahead.{MayBeForgotten}
use Rattle.cam_node.specs.Calls.{answers, AreSame}
use Rattle.cam_node.specs.Holdings.{performs}
use Rattle.cam_node.specs.Plans.{IsPlanFor}
use Rattle.cam_node.specs.Planning.{IsMade}
use Rattle.cam_node.proofs.Elsewhere.{elsewhere_plan}
use Rattle.cam_node.proofs.HandedIn.{plan_performs}
use Rattle.cam_node.proofs.state.Core.call_elsewhere.Goals as goal

pub returns-clause-forgotten : goal.returns-clause-forgotten
returns-clause-forgotten c =
    let first = answers c.args.self.now in
    let core = answers c.receive.new.self in
    IfOk-weaker c.planned.result
    (λ plan. IsMade c.receive.new.self c.args.id.now c.in_ok-learnt.learnt c.nothing_but.result plan)
    (λ plan. MayBeForgotten first core plan.change)
    (λ plan made. subst (λ (change : Change). MayBeForgotten first core change)
    (sym (made.change ∙ ap (λ (d : Doing). d.change) c.nothing_but.ensures))
    (λ new stays. subst (AreSame first) (sym stays) c.receive.ensures.same))
    c.planned.ensures

pub returns-clause-plan : goal.returns-clause-plan
returns-clause-plan c = λ objects.
    IfOk-weaker c.planned.result
    (λ plan. IsMade c.receive.new.self c.args.id.now c.in_ok-learnt.learnt c.nothing_but.result plan)
    (λ plan. IsPlanFor objects c.args.id.now c.args.letter.now c.args.self.now c.receive.new.self
    plan)
    (λ plan made.
    elsewhere_plan objects c.args.id.now c.args.letter.now c.args.self.now c.receive.new.self
    c.in_ok-learnt.learnt c.nothing_but.result plan
    c.requires.from c.requires.elsewhere c.in_ok-learnt.ensures.received c.receive.ensures.same
    c.nothing_but.ensures made)
    c.planned.ensures

pub returns-clause-adds : goal.returns-clause-adds
returns-clause-adds c =
    IfOk-weaker c.planned.result
    (λ plan. IsMade c.receive.new.self c.args.id.now c.in_ok-learnt.learnt c.nothing_but.result plan)
    (λ plan. plan.adds ≡ None)
    (λ plan made. made.adds ∙ ap (λ (d : Doing). d.adds) c.nothing_but.ensures) c.planned.ensures

pub returns-clause-quiet : goal.returns-clause-quiet
returns-clause-quiet c =
    IfOk-weaker c.planned.result
    (λ plan. IsMade c.receive.new.self c.args.id.now c.in_ok-learnt.learnt c.nothing_but.result plan)
    (λ plan. performs plan.stepped.event.deeds ≡ false)
    (λ plan made.
    plan_performs c.args.letter.now c.args.self.now c.receive.new.self c.receive.new.self
    c.in_ok-learnt.learnt c.args.id.now c.nothing_but.result plan c.in_ok-learnt.ensures.received made
    ∙ ap (λ (d : Doing). performs d.did.deeds) c.nothing_but.ensures) c.planned.ensures
