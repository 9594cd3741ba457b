-- The node's own step.
use Rattle.std.proofs.Common.{[], None, ap}
use Rattle.cam_event.specs.Inputs.{Begins}
use Rattle.cam_event.specs.Loads.{no_load}
use Rattle.cam_node.specs.Calls.{answers}
use Rattle.cam_node.specs.Represents.{Node}
use Rattle.cam_node.proofs.TakenPlans.{number_kept}
use Rattle.cam_node.proofs.Idle.{same_of}
use Rattle.cam_node.proofs.Steps.{failed}
use Rattle.cam_node.proofs.state.Core.own.Goals as goal

pub returns-in-Tell-clause-err : goal.returns-in-Tell-clause-err
returns-in-Tell-clause-err c = failed c.tell.result _ (same_of (answers c.args.self.now) (answers
    c.tell.new.self) c.tell.ensures.same)

pub returns-in-Query-clause-err : goal.returns-in-Query-clause-err
returns-in-Query-clause-err c = failed c.query.result _ (same_of (answers c.args.self.now) (answers
    c.query.new.self) c.query.ensures.same)

pub returns-in-Begin-clause-number : goal.returns-in-Begin-clause-number
returns-in-Begin-clause-number c =
    number_kept c.begin.result [] (answers c.args.self.now) (answers c.begin.new.self) (Begins
    c.args.self.now.number) None no_load (c.begin.ensures.step []) c.begin.ensures.err

pub returns-in-Tell-clause-number : goal.returns-in-Tell-clause-number
returns-in-Tell-clause-number c = ap (λ (n : Node). n.number) c.tell.ensures.same

pub returns-in-Tell-clause-server : goal.returns-in-Tell-clause-server
returns-in-Tell-clause-server c = ap (λ (n : Node). n.server) c.tell.ensures.same

pub returns-in-Query-clause-server : goal.returns-in-Query-clause-server
returns-in-Query-clause-server c = ap (λ (n : Node). n.server) c.query.ensures.same

pub returns-in-Query-clause-number : goal.returns-in-Query-clause-number
returns-in-Query-clause-number c = ap (λ (n : Node). n.number) c.query.ensures.same
