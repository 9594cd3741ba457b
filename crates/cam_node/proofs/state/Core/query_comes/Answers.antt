-- A query comes.
use Rattle.std.proofs.Common.{List, ap, ◌∙◌}
use Rattle.std.proofs.lemmas.Result.{IfOk-weaker}
use Rattle.cam_know.specs.declared.Outcome.TheVariants.{Aborted}
use Rattle.cam_event.specs.declared.Deed.{Deed}
use Rattle.cam_event.specs.declared.Note.TheVariants as notes
use Rattle.cam_event.specs.Rules.{did}
use Rattle.cam_node.specs.Calls.{answers}
use Rattle.cam_node.specs.Plans.{IsPlanFor}
use Rattle.cam_node.specs.Standing.{MayStand, just}
use Rattle.cam_node.specs.Planning.{IsMade, IsMadeDeciding}
use Rattle.cam_node.proofs.LetterPlans.{same_then}
use Rattle.cam_node.proofs.QueryComes.{gone_may, gone_plan, open_plan, told_plan}
use Rattle.cam_node.proofs.state.Core.query_comes.Goals as goal

pub returns-in_ok-sent-in-Tell-clause-plan : goal.returns-in_ok-sent-in-Tell-clause-plan
returns-in_ok-sent-in-Tell-clause-plan c = λ objects.
    let core = c.receive.new.self in
    IfOk-weaker c.planned.result
    (λ plan. IsMade core c.args.id.now c.in_ok-learnt.learnt c.just.result plan)
    (λ plan. IsPlanFor objects c.args.id.now c.args.letter.now c.args.self.now core plan)
    (λ plan made.
    told_plan objects c.args.id.now c.args.letter.now c.args.self.now core c.in_ok-learnt.learnt
    c.args.family.now c.in_ok-sent-in-Tell.sent c.just.result plan c.requires.from c.requires.body
    c.in_ok-learnt.ensures.received c.in-Tell.ensures c.in_ok-sent-in-Tell.ensures.exactly
    (c.just.ensures ∙ ap (λ (ds : List Deed). just (did ds c.in_ok-sent-in-Tell.sent)) c.new.ensures)
    made)
    c.planned.ensures

pub returns-in_ok-sent-in-Abort-clause-same : goal.returns-in_ok-sent-in-Abort-clause-same
returns-in_ok-sent-in-Abort-clause-same c =
    same_then (answers c.args.self.now) (answers c.receive.new.self) (answers c.decides.new.self)
    c.receive.ensures.same c.decides.ensures.same

pub returns-in_ok-sent-in-Abort-clause-plan : goal.returns-in_ok-sent-in-Abort-clause-plan
returns-in_ok-sent-in-Abort-clause-plan c = λ objects.
    let core = c.receive.new.self in
    let now = c.decides.new.self in
    IfOk-weaker c.decides.result
    (λ plan. IsMadeDeciding core now c.args.id.now c.in_ok-learnt.learnt
    (Aborted c.args.family.now) c.in_ok-sent-in-Abort.sent notes.Plain plan)
    (λ plan. IsPlanFor objects c.args.id.now c.args.letter.now c.args.self.now now plan)
    (λ plan made.
    gone_plan objects c.args.id.now c.args.letter.now c.args.self.now core now
    c.in_ok-learnt.learnt c.args.family.now c.in_ok-sent-in-Abort.sent plan c.requires.from
    c.requires.body c.in_ok-learnt.ensures.received c.in-Abort.ensures
    c.in_ok-sent-in-Abort.ensures.exactly c.decides.ensures.same c.decides.ensures.actions made)
    c.decides.ensures.made

pub returns-in_ok-sent-in-Abort-clause-may : goal.returns-in_ok-sent-in-Abort-clause-may
returns-in_ok-sent-in-Abort-clause-may c =
    IfOk-weaker c.decides.result
    (λ plan. IsMadeDeciding c.receive.new.self c.decides.new.self c.args.id.now
    c.in_ok-learnt.learnt (Aborted c.args.family.now) c.in_ok-sent-in-Abort.sent notes.Plain plan)
    (λ plan. MayStand plan c.decides.new.self)
    (λ plan made.
    gone_may c.receive.new.self c.decides.new.self c.args.id.now c.in_ok-learnt.learnt
    c.args.family.now c.in_ok-sent-in-Abort.sent plan c.in-Abort.ensures made)
    c.decides.ensures.made

pub returns-in-StillOpen-clause-plan : goal.returns-in-StillOpen-clause-plan
returns-in-StillOpen-clause-plan c = λ objects.
    let core = c.receive.new.self in
    IfOk-weaker c.planned-in-StillOpen.result
    (λ plan. IsMade core c.args.id.now c.in_ok-learnt.learnt c.nothing_but.result plan)
    (λ plan. IsPlanFor objects c.args.id.now c.args.letter.now c.args.self.now core plan)
    (λ plan made.
    open_plan objects c.args.id.now c.args.letter.now c.args.self.now core c.in_ok-learnt.learnt
    c.args.family.now c.nothing_but.result plan c.requires.from c.requires.body
    c.in_ok-learnt.ensures.received c.in-StillOpen.ensures c.nothing_but.ensures made)
    c.planned-in-StillOpen.ensures
