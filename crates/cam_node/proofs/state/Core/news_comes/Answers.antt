-- News comes.
use Rattle.std.proofs.Common.{◌≡◌, None, ap, ◌∙◌}
use Rattle.std.proofs.lemmas.Result.{IfOk-weaker}
use Rattle.cam_node.specs.declared.did.Doing.{Doing}
use Rattle.cam_node.specs.Plans.{IsPlanFor}
use Rattle.cam_node.specs.Planning.{IsMade}
use Rattle.cam_node.proofs.NewsComes.{news_plan}
use Rattle.cam_node.proofs.state.Core.news_comes.Goals as goal

pub returns-clause-plan : goal.returns-clause-plan
returns-clause-plan c = λ objects.
    IfOk-weaker c.planned.result
    (λ plan. IsMade c.receive.new.self c.args.id.now c.in_ok-learnt.learnt c.nothing_but.result
    plan)
    (λ plan. IsPlanFor objects c.args.id.now c.args.letter.now c.args.self.now c.receive.new.self
    plan)
    (λ plan made.
    news_plan objects c.args.id.now c.args.letter.now c.args.self.now c.receive.new.self
    c.in_ok-learnt.learnt c.nothing_but.result plan
    c.requires.from c.requires.body c.in_ok-learnt.ensures.received c.receive.ensures.same
    c.nothing_but.ensures made)
    c.planned.ensures

pub returns-clause-adds : goal.returns-clause-adds
returns-clause-adds c =
    IfOk-weaker c.planned.result
    (λ plan. IsMade c.receive.new.self c.args.id.now c.in_ok-learnt.learnt c.nothing_but.result plan)
    (λ plan. plan.adds ≡ None)
    (λ plan made. made.adds ∙ ap (λ (d : Doing). d.adds) c.nothing_but.ensures) c.planned.ensures
