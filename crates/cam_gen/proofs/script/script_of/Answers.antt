-- The loop writes the steps, one by one.
use Rattle.std.proofs.Common.{◌≡◌, ◌-◌, ◌+◌, suc, arith}
use Rattle.cam_gen.proofs.DrawnSteps.{counted, one_more}
use Rattle.cam_gen.proofs.script.script_of.Goals as goal

pub loop-preserved : goal.loop-preserved
loop-preserved c =
    let less : c.args.size - c.loop.counter
    ≡ suc (c.args.size - (c.loop.counter + 1)) = omega (arith, c.loop-test.true) in (
      omega (
        arith,
        c.in_ok-step.ensures.variables,
        counted c.loop.writer.draws.state c.loop.writer.variables,
        c.loop.invariant.0,
      ),
      one_more _ _ _ c.loop.writer.draws.state c.loop.writer.variables _ _ _ _
          c.in_ok-step.ensures.text c.in_ok-step.ensures.state
          c.in_ok-step.ensures.variables less c.loop.invariant.1,
    )
