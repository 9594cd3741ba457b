-- The node's own step that decides nothing.
use Rattle.cam_node.specs.Calls.{answers}
use Rattle.cam_node.proofs.TakenMoments.{same_grows}
use Rattle.cam_node.proofs.TakenPlans.{appended_from, keeps_from, step_from}
use Rattle.std.proofs.Common.{refl}
use Rattle.cam_node.proofs.node.Node.own.Goals as goal

pub returns-clause-step : goal.returns-clause-step
returns-clause-step g c =
    step_from c.args.self.now.objects (answers c.args.self.now.core) (answers c.args.self.now.core)
    (answers c.own.new.self) c.args.input.now c.in_ok-own.field-0.event
    c.requires.own refl (c.in_ok-own.ensures.step c.args.self.now.objects)

pub returns-clause-keeps : goal.returns-clause-keeps
returns-clause-keeps g c =
    keeps_from c.args.self.now.objects (answers c.args.self.now.core) (answers
    c.args.self.now.core) (answers c.own.new.self)
    (g.L.EntryLog.listed c.args.self.now.log.log) c.args.input.now c.in_ok-own.field-0.event
    c.args.self.now.numbered c.is_knowledge.ensures c.requires.own
    refl c.own.ensures.server (c.in_ok-own.ensures.step c.args.self.now.objects)

pub returns-clause-entry : goal.returns-clause-entry
returns-clause-entry g c =
    appended_from c.args.self.now.objects (answers c.args.self.now.core) (answers c.own.new.self)
    (g.L.EntryLog.listed c.args.self.now.log.log) (g.L.EntryLog.passes c.args.self.now.log.log)
    c.args.input.now c.in_ok-own.field-0.event c.is_knowledge.ensures c.requires.own
    (c.in_ok-own.ensures.step c.args.self.now.objects)

pub returns-clause-any_moment : goal.returns-clause-any_moment
returns-clause-any_moment g c = λ tells.
    same_grows (g.L.EntryLog.moment c.args.self.now.log.log)
    (g.L.EntryLog.opens_since c.args.self.now.log.log) _
