-- One outcome more.
use Rattle.std.proofs.Common.{arith}
use Rattle.cam_server.specs.Calls.{answers}
use Rattle.cam_server.proofs.Informing.{of_none, of_next, of_all}
use Rattle.cam_server.proofs.server.Server.inform_all.Goals as goal

pub loop-outcome-init : goal.loop-outcome-init
loop-outcome-init c = (of_none (answers c.args.self.now), omega (arith, c.requires), omega (arith))

pub loop-outcome-preserved : goal.loop-outcome-preserved
loop-outcome-preserved c = (
  of_next c.args.outcomes.now c.loop-outcome.outcome-index c.outcome-item.result (answers c.args.self.now) (answers c.loop-outcome.self) (answers c.inform.new.self)
      c.loop-outcome-test.true c.outcome-item.is c.loop-outcome.invariant.0 c.inform.ensures.count c.inform.ensures.site
      (λ a n. c.inform.ensures.replies (record { action = a; number = n })),
  omega (arith, c.loop-outcome.invariant.1, c.inform.ensures.spare),
  omega (arith, c.loop-outcome.invariant.2, c.inform.ensures.spare),
)

pub returns-clause-informed : goal.returns-clause-informed
returns-clause-informed c = of_all c.args.outcomes.now c.loop-outcome.outcome-index (answers c.args.self.now) (answers c.loop-outcome.self) c.loop-outcome-test.false c.loop-outcome.invariant.0

pub returns-clause-spare : goal.returns-clause-spare
returns-clause-spare c = omega (arith, c.loop-outcome.invariant.2, c.loop-outcome-test.false)
