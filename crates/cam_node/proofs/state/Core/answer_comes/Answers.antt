-- An answer comes.
use Rattle.std.proofs.Common.{◌≡◌, None, Some, ap, ◌∙◌}
use Rattle.std.proofs.lemmas.Result.{IfOk-weaker}
use Rattle.cam_node.specs.declared.did.Doing.{Doing}
use Rattle.cam_node.specs.declared.state.Core.{Core}
use Rattle.cam_node.specs.Calls.{answers}
use Rattle.cam_node.specs.Plans.{IsPlanFor}
use Rattle.cam_node.specs.Standing.{MayStand}
use Rattle.cam_node.specs.Planning.{IsMade}
use Rattle.cam_node.proofs.AnswerComes.{answer_quiet}
use Rattle.cam_node.proofs.AnswerPlan.{answer_plan}
use Rattle.cam_node.proofs.AnswerStands.{answer_may, answer_nodes}
use Rattle.cam_node.proofs.Stands.{made_may}
use Rattle.cam_node.proofs.state.Core.answer_comes.Goals as goal

pub planned-requires-clause-nodes : goal.planned-requires-clause-nodes
planned-requires-clause-nodes c =
    answer_nodes (answers c.receive.new.self).actions c.receive.new.self.knowing.known
    c.args.action.now c.args.number
    c.args.reply.now c.in_ok-doing.doing c.in_ok-doing.ensures

pub returns-clause-plan : goal.returns-clause-plan
returns-clause-plan c = λ objects.
    let now : Core = c.receive.new.self in
    IfOk-weaker c.planned.result
    (λ plan. IsMade now c.args.id.now c.in_ok-learnt.learnt c.in_ok-doing.doing plan)
    (λ plan. IsPlanFor objects c.args.id.now c.args.letter.now c.args.self.now now plan)
    (λ plan made.
    answer_plan objects c.args.id.now c.args.letter.now c.args.self.now now
    c.in_ok-learnt.learnt c.in_ok-doing.doing plan
    c.args.action.now c.args.number c.args.reply.now c.requires.from c.requires.body
    c.in_ok-learnt.ensures.received
    c.receive.ensures.same c.in_ok-doing.ensures made)
    c.planned.ensures

pub returns-clause-may : goal.returns-clause-may
returns-clause-may c =
    let now : Core = c.receive.new.self in
    IfOk-weaker c.planned.result
    (λ plan. IsMade now c.args.id.now c.in_ok-learnt.learnt c.in_ok-doing.doing plan)
    (λ plan. MayStand plan now)
    (λ plan made.
    made_may now c.args.id.now c.in_ok-learnt.learnt c.in_ok-doing.doing plan made
    c.in_ok-learnt.ensures.received.room
    c.in_ok-learnt.ensures.received.within
    (answer_may (Some c.in_ok-learnt.learnt.heard) now (answers now).actions now.knowing.known c.args.action.now c.args.number
    c.args.reply.now
    c.in_ok-doing.doing c.in_ok-doing.ensures))
    c.planned.ensures

pub returns-clause-adds : goal.returns-clause-adds
returns-clause-adds c =
    let now : Core = c.receive.new.self in
    IfOk-weaker c.planned.result
    (λ plan. IsMade now c.args.id.now c.in_ok-learnt.learnt c.in_ok-doing.doing plan)
    (λ plan. plan.adds ≡ None)
    (λ plan made.
    made.adds ∙ ap (λ (d : Doing). d.adds) c.in_ok-doing.ensures
    ∙ (answer_quiet (answers now).actions now.knowing.known c.args.action.now c.args.number
    c.args.reply.now).adds)
    c.planned.ensures
