-- A start comes.
use Rattle.std.proofs.Common.{◌≡◌, None, Some, refl, ◌∙◌}
use Rattle.std.proofs.lemmas.Result.{IfOk-weaker}
use Rattle.cam_tranman.specs.Tables as tranman
use Rattle.cam_node.specs.declared.state.Core.{Core}
use Rattle.cam_node.specs.Calls.{answers}
use Rattle.cam_node.specs.Plans.{IsPlanFor}
use Rattle.cam_node.specs.Standing.{MayStand}
use Rattle.cam_node.specs.Planning.{IsMade}
use Rattle.cam_node.proofs.Stands.{made_may}
use Rattle.cam_node.proofs.StartComes.{starts_at_home}
use Rattle.cam_node.proofs.StartPlan.{start_plan}
use Rattle.cam_node.proofs.StartStands.{start_may}
use Rattle.cam_node.proofs.Unchanged.{same_with}
use Rattle.cam_node.proofs.state.Core.start_comes.Goals as goal

pub returns-clause-plan : goal.returns-clause-plan
returns-clause-plan c = λ objects.
    let now : Core = record c.receive.new.self {
      actions = c.reserve.new.self;
      counted = c.self-1.given.0;
    } in
    IfOk-weaker c.planned.result
    (λ plan. IsMade now c.args.id.now c.in_ok-learnt.learnt c.in_ok-doing.doing plan)
    (λ plan. IsPlanFor objects c.args.id.now c.args.letter.now c.args.self.now now plan)
    (λ plan made.
    start_plan objects c.args.id.now c.args.letter.now c.args.self.now c.receive.new.self now
    c.in_ok-learnt.learnt
    c.in_ok-doing.doing plan c.args.child.now c.args.deps.now c.requires.from c.requires.body
    c.started.ensures.eight
    c.in_ok-learnt.ensures.received refl
    (same_with (answers c.args.self.now) (answers c.receive.new.self)
    (tranman.answers c.reserve.new.self)
    c.receive.ensures.same c.reserve.ensures.same)
    c.in_ok-doing.ensures.does made)
    c.planned.ensures

pub returns-clause-may : goal.returns-clause-may
returns-clause-may c =
    let now : Core = record c.receive.new.self {
      actions = c.reserve.new.self;
      counted = c.self-1.given.0;
    } in
    IfOk-weaker c.planned.result
    (λ plan. IsMade now c.args.id.now c.in_ok-learnt.learnt c.in_ok-doing.doing plan)
    (λ plan. MayStand plan now)
    (λ plan made.
    made_may now c.args.id.now c.in_ok-learnt.learnt c.in_ok-doing.doing plan made
    c.in_ok-learnt.ensures.received.room c.in_ok-learnt.ensures.received.within
    (start_may (Some c.in_ok-learnt.learnt.heard) c.args.letter.now.from c.args.child.now c.args.deps.now
    c.receive.new.self.knowing.known
    (answers c.receive.new.self).actions now c.in_ok-doing.doing c.in_ok-doing.ensures.does
    c.reserve.ensures.same
    c.in_ok-reserve.ensures.ok))
    c.planned.ensures

pub returns-clause-adds : goal.returns-clause-adds
returns-clause-adds c =
    let now : Core = record c.receive.new.self {
      actions = c.reserve.new.self;
      counted = c.self-1.given.0;
    } in
    IfOk-weaker c.planned.result
    (λ plan. IsMade now c.args.id.now c.in_ok-learnt.learnt c.in_ok-doing.doing plan)
    (λ plan. plan.adds ≡ None)
    (λ plan made.
    made.adds
    ∙ (starts_at_home (answers c.receive.new.self).actions c.receive.new.self.knowing.known
    c.args.letter.now.from c.args.child.now c.args.deps.now c.in_ok-doing.doing
    c.in_ok-doing.ensures.does).1)
    c.planned.ensures
