-- A child that is decided is one that may be.
use Rattle.std.proofs.Common.{subst}
use Rattle.cam_know.specs.declared.Outcome.{Outcome}
use Rattle.cam_node.specs.Calls.{answers}
use Rattle.cam_node.specs.Decides.{MayDecide}
use Rattle.cam_node.proofs.state.Core.decision_stands.Goals as goal

pub decide-requires : goal.decide-requires
decide-requires c =
    subst (λ (o : Outcome). MayDecide o (answers c.args.self.now).actions) c.in-Aborted.is c.requires.may

pub decide-requires-in-Committed : goal.decide-requires-in-Committed
decide-requires-in-Committed c =
    subst (λ (o : Outcome). MayDecide o (answers c.args.self.now).actions) c.in-Committed.is c.requires.may
