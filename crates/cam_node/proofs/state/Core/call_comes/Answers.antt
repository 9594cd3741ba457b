-- A call comes.
use Rattle.std.proofs.Common.{◌≡◌, None, sym, ◌∙◌, subst}
use Rattle.std.proofs.lemmas.Result.{IfOk-weaker}
use Rattle.cam_server.specs.Calls as server
use Rattle.cam_node.specs.declared.plan.Change.{Change}
use Rattle.cam_node.specs.Calls.{answers, AreSame}
use Rattle.cam_node.specs.Ahead.{HasGoneAhead, MayBeForgotten}
use Rattle.cam_node.specs.Holdings.{HoldsThen}
use Rattle.cam_node.specs.Plans.{IsPlanFor}
use Rattle.cam_node.specs.Standing.{MayStand}
use Rattle.cam_node.specs.Planning.{IsMade}
use Rattle.cam_node.specs.Served.{asked_of}
use Rattle.cam_node.proofs.CallPlan.{call_plan, call_may}
use Rattle.cam_node.proofs.AheadPlan.{ahead_may, ahead_plan}
use Rattle.cam_node.proofs.Forgotten.{both_err, both_ok, ahead_err, ahead_forgotten, waiting_forgotten}
use Rattle.cam_node.proofs.HandedIn.{ahead_held, waiting_held}
use Rattle.cam_node.proofs.state.Core.call_comes.Goals as goal

pub returns-then-is_apart-clause-err : goal.returns-then-is_apart-clause-err
returns-then-is_apart-clause-err g c =
    both_err c.call_goes_ahead.result
    (server.AreSame (answers c.receive.new.self).server (answers c.call_goes_ahead.new.self).server)
    (answers c.call_goes_ahead.new.self
    ≡ record (answers c.receive.new.self) { server = (answers c.call_goes_ahead.new.self).server })
    (AreSame (answers c.args.self.now) (answers c.call_goes_ahead.new.self))
    (λ served rest.
    ahead_err (answers c.args.self.now) (answers c.receive.new.self)
    (answers c.call_goes_ahead.new.self) c.receive.ensures.same served rest)
    c.call_goes_ahead.ensures.err c.call_goes_ahead.ensures.err_rest

pub returns-then-is_apart-clause-forgotten : goal.returns-then-is_apart-clause-forgotten
returns-then-is_apart-clause-forgotten g c =
    IfOk-weaker c.call_goes_ahead.result
    (λ plan. HasGoneAhead c.receive.new.self c.call_goes_ahead.new.self c.args.id.now
    c.in_ok-learnt.learnt (asked_of c.args.call.now) plan)
    (λ plan. MayBeForgotten (answers c.args.self.now)
    (answers c.call_goes_ahead.new.self) plan.change)
    (λ plan gone.
    ahead_forgotten c.args.self.now c.receive.new.self c.call_goes_ahead.new.self c.args.id.now
    c.in_ok-learnt.learnt (asked_of c.args.call.now) plan
    c.receive.ensures.same gone)
    c.call_goes_ahead.ensures.ahead

pub returns-then-is_apart-clause-may : goal.returns-then-is_apart-clause-may
returns-then-is_apart-clause-may g c =
    IfOk-weaker c.call_goes_ahead.result
    (λ plan. HasGoneAhead c.receive.new.self c.call_goes_ahead.new.self c.args.id.now
    c.in_ok-learnt.learnt (asked_of c.args.call.now) plan)
    (λ plan. MayStand plan c.call_goes_ahead.new.self)
    (λ plan gone.
    ahead_may c.args.letter.now c.args.self.now c.receive.new.self c.call_goes_ahead.new.self
    c.args.id.now c.in_ok-learnt.learnt
    (asked_of c.args.call.now) plan c.in_ok-learnt.ensures.received gone)
    c.call_goes_ahead.ensures.ahead

pub returns-then-is_apart-clause-plan : goal.returns-then-is_apart-clause-plan
returns-then-is_apart-clause-plan g c = λ objects.
    IfOk-weaker c.call_goes_ahead.result
    (λ plan. HasGoneAhead c.receive.new.self c.call_goes_ahead.new.self c.args.id.now
    c.in_ok-learnt.learnt (asked_of c.args.call.now) plan)
    (λ plan. IsPlanFor objects c.args.id.now c.args.letter.now c.args.self.now
    c.call_goes_ahead.new.self plan)
    (λ plan gone.
    ahead_plan objects c.args.id.now c.args.letter.now c.args.self.now c.receive.new.self
    c.call_goes_ahead.new.self c.in_ok-learnt.learnt
    (asked_of c.args.call.now) plan c.requires.from c.requires.call c.in_ok-learnt.ensures.received
    (sym c.is_apart.ensures ∙ c.if-is_apart.true) gone)
    c.call_goes_ahead.ensures.ahead

pub returns-clause-forgotten : goal.returns-clause-forgotten
returns-clause-forgotten g c =
    IfOk-weaker c.planned.result
    (λ plan. IsMade c.receive.new.self c.args.id.now c.in_ok-learnt.learnt c.in_ok-doing.doing plan)
    (λ plan. MayBeForgotten (answers c.args.self.now) (answers c.receive.new.self) plan.change)
    (λ plan made.
    subst (λ (change : Change). MayBeForgotten (answers c.args.self.now)
    (answers c.receive.new.self) change) (sym made.change)
    (waiting_forgotten c.args.self.now c.receive.new.self c.in_ok-learnt.learnt.heard.news
    c.receive.new.self.knowing.known (asked_of c.args.call.now)
    c.in_ok-doing.ensures.done.0 (answers c.receive.new.self).server c.in_ok-doing.doing.change
    c.receive.ensures.same
    c.in_ok-doing.ensures.done.1.change))
    c.planned.ensures

pub returns-clause-plan : goal.returns-clause-plan
returns-clause-plan g c = λ objects.
    IfOk-weaker c.planned.result
    (λ plan. IsMade c.receive.new.self c.args.id.now c.in_ok-learnt.learnt c.in_ok-doing.doing plan)
    (λ plan. IsPlanFor objects c.args.id.now c.args.letter.now c.args.self.now c.receive.new.self
    plan)
    (λ plan made.
    call_plan objects c.args.id.now c.args.letter.now c.args.self.now c.receive.new.self
    c.in_ok-learnt.learnt c.in_ok-doing.doing plan
    (asked_of c.args.call.now) c.in_ok-doing.ensures.done.0 c.requires.from c.requires.call
    c.in_ok-learnt.ensures.received
    c.in_ok-doing.ensures.done.1 made)
    c.planned.ensures

pub returns-clause-may : goal.returns-clause-may
returns-clause-may g c =
    IfOk-weaker c.planned.result
    (λ plan. IsMade c.receive.new.self c.args.id.now c.in_ok-learnt.learnt c.in_ok-doing.doing plan)
    (λ plan. MayStand plan c.receive.new.self)
    (λ plan made.
    call_may plan c.args.id.now c.args.letter.now c.args.self.now c.receive.new.self
    c.in_ok-learnt.learnt c.in_ok-doing.doing
    (asked_of c.args.call.now) c.in_ok-doing.ensures.done.0 c.in_ok-learnt.ensures.received
    c.in_ok-doing.ensures.done.1 made)
    c.planned.ensures

pub returns-then-is_apart-clause-adds : goal.returns-then-is_apart-clause-adds
returns-then-is_apart-clause-adds g c =
    IfOk-weaker c.call_goes_ahead.result
    (λ plan. HasGoneAhead c.receive.new.self c.call_goes_ahead.new.self c.args.id.now
    c.in_ok-learnt.learnt (asked_of c.args.call.now) plan)
    (λ plan. plan.adds ≡ None)
    (λ plan gone. gone.planned.made.adds ∙ gone.planned.adds)
    c.call_goes_ahead.ensures.ahead

pub returns-clause-adds : goal.returns-clause-adds
returns-clause-adds g c =
    IfOk-weaker c.planned.result
    (λ plan. IsMade c.receive.new.self c.args.id.now c.in_ok-learnt.learnt c.in_ok-doing.doing plan)
    (λ plan. plan.adds ≡ None)
    (λ plan made. made.adds ∙ c.in_ok-doing.ensures.done.1.adds)
    c.planned.ensures

pub returns-then-is_apart-clause-held : goal.returns-then-is_apart-clause-held
returns-then-is_apart-clause-held g c =
    both_ok c.call_goes_ahead.result _ _ _
    (λ plan gone held.
    ahead_held c.args.letter.now c.args.self.now c.receive.new.self c.call_goes_ahead.new.self
    c.in_ok-learnt.learnt c.args.id.now (asked_of c.args.call.now) plan c.args.call.now.object
    (g.T.DataType.held c.args.server.now) (g.T.DataType.held c.call_goes_ahead.new.server)
    c.in_ok-learnt.ensures.received (sym c.is_apart.ensures ∙ c.if-is_apart.true) gone held)
    c.call_goes_ahead.ensures.ahead c.call_goes_ahead.ensures.held

pub returns-clause-held : goal.returns-clause-held
returns-clause-held g c =
    IfOk-weaker c.planned.result
    (λ plan. IsMade c.receive.new.self c.args.id.now c.in_ok-learnt.learnt c.in_ok-doing.doing plan)
    (λ plan. HoldsThen c.args.call.now.object plan c.receive.new.self.knowing.known
    (answers c.receive.new.self) (g.T.DataType.held c.args.server.now)
    (g.T.DataType.held c.serve.new.server))
    (λ plan made.
    waiting_held c.args.letter.now c.args.self.now c.receive.new.self c.in_ok-learnt.learnt
    c.args.id.now c.in_ok-doing.doing plan (asked_of c.args.call.now)
    c.in_ok-doing.ensures.done.0 c.args.call.now.object (g.T.DataType.held c.args.server.now)
    (g.T.DataType.held c.serve.new.server) c.in_ok-learnt.ensures.received made
    c.in_ok-doing.ensures.done.1 c.in_ok-doing.ensures.held)
    c.planned.ensures
