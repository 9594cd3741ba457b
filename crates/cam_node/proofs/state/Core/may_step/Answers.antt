-- Whether a letter may come.
use Rattle.std.proofs.Common.{◌↔◌, IsTrue, sym, subst}
use Rattle.cam_node.specs.declared.Input.{Input}
use Rattle.cam_node.specs.Calls.{answers}
use Rattle.cam_node.specs.MayStep.{MayStep}
use Rattle.cam_node.proofs.state.Core.may_step.Goals as goal

pub returns-in-Letter : goal.returns-in-Letter
returns-in-Letter c =
    subst (λ (i : Input). IsTrue c.may_come.result ↔ MayStep (answers c.args.self.now) i)
    (sym c.in-Letter.is) c.may_come.ensures
