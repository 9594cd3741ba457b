-- A prepare comes.
use Rattle.std.proofs.Common.{◌≤◌, length, Some, refl, sym, ap, ◌∙◌, subst}
use Rattle.std.proofs.lemmas.Result.{IfOk-weaker}
use Rattle.cam_locks.specs.Site as locks
use Rattle.cam_commit.specs.declared.Asked.{Asked}
use Rattle.cam_commit.specs.Calls as commit
use Rattle.cam_node.specs.declared.state.Core.{Core}
use Rattle.cam_node.specs.Calls.{answers}
use Rattle.cam_node.specs.Plans.{IsPlanFor}
use Rattle.cam_node.specs.Standing.{MayStand}
use Rattle.cam_node.specs.Planning.{IsMade}
use Rattle.cam_node.specs.Planned.{MayBeAdded}
use Rattle.cam_node.specs.Prepared.{asked_does}
use Rattle.cam_node.proofs.FamiliesReserved.{with_families}
use Rattle.cam_node.proofs.PrepareArrives.{prepare_adds, prepare_plan, prepare_may}
use Rattle.cam_node.proofs.Stands.{made_may}
use Rattle.cam_node.proofs.SecureRecorded.{held_then}
use Rattle.cam_node.proofs.state.Core.prepare_comes.Goals as goal

pub returns-clause-same : goal.returns-clause-same
returns-clause-same c =
    with_families (answers c.args.self.now) (answers c.receive.new.self) (commit.answers c.reserve.new.self)
    c.receive.ensures.same c.reserve.ensures.same

pub returns-clause-plan : goal.returns-clause-plan
returns-clause-plan c = λ objects.
    let now : Core = record c.receive.new.self {
      families = c.reserve.new.self;
      counted = c.self-1.given.0;
    } in
    IfOk-weaker c.planned.result
    (λ plan. IsMade now c.args.id.now c.in_ok-learnt.learnt c.in_ok-doing.doing plan)
    (λ plan. IsPlanFor objects c.args.id.now c.args.letter.now c.args.self.now now plan)
    (λ plan made.
    prepare_plan objects c.args.id.now c.args.letter.now c.args.self.now c.receive.new.self now
    c.in_ok-learnt.learnt c.args.family.now c.args.count c.in_ok-doing.doing plan c.requires.from c.requires.body
    (record {
      received = c.in_ok-learnt.ensures.received;
      knows = refl;
      same = with_families (answers c.args.self.now) (answers c.receive.new.self)
          (commit.answers c.reserve.new.self) c.receive.ensures.same c.reserve.ensures.same;
    })
    (c.in_ok-doing.ensures.does
    ∙ ap (λ (r : Asked). asked_does now.number (held_then c.in_ok-learnt.learnt now c.args.family.now c.args.count) r)
    c.asked-asked.ensures)
    made)
    c.planned.ensures

pub returns-clause-may : goal.returns-clause-may
returns-clause-may c =
    let now : Core = record c.receive.new.self {
      families = c.reserve.new.self;
      counted = c.self-1.given.0;
    } in
    let received = c.in_ok-learnt.ensures.received in
    IfOk-weaker c.planned.result
    (λ plan. IsMade now c.args.id.now c.in_ok-learnt.learnt c.in_ok-doing.doing plan)
    (λ plan. MayStand plan now)
    (λ plan made.
    made_may now c.args.id.now c.in_ok-learnt.learnt c.in_ok-doing.doing plan made received.room received.within
    (prepare_may now.number now (Some c.in_ok-learnt.learnt.heard) c.asked-asked.result c.in_ok-doing.doing
    (held_then c.in_ok-learnt.learnt now c.args.family.now c.args.count) c.in_ok-doing.ensures.does
    c.in_ok-reserve.ensures.ok))
    c.planned.ensures

pub returns-clause-adds : goal.returns-clause-adds
returns-clause-adds c =
    let now : Core = record c.receive.new.self {
      families = c.reserve.new.self;
      counted = c.self-1.given.0;
    } in
    let learnt = c.in_ok-learnt.learnt in
    let doing = c.in_ok-doing.doing in
    let objects = (answers now).server.table.site.objects in
    let few : length objects ≤ 64 =
    subst (λ (site : locks.Site). length site.objects ≤ 64) (sym c.receive.ensures.same.server.site)
    c.requires.few in
    IfOk-weaker c.planned.result
    (λ plan. IsMade now c.args.id.now learnt doing plan)
    (λ plan. MayBeAdded plan.adds)
    (λ plan made.
    subst MayBeAdded (sym made.adds)
    (prepare_adds now.number now c.args.family.now c.args.count doing
    (held_then learnt now c.args.family.now c.args.count) objects
    (c.in_ok-doing.ensures.does
    ∙ ap (asked_does now.number (held_then learnt now c.args.family.now c.args.count))
    c.asked-asked.ensures)
    few c.in_ok-doing.ensures.writable))
    c.planned.ensures
