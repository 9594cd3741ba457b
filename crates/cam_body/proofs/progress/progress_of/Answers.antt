use Rattle.std.proofs.Common.{take, arith}
use Rattle.cam_body.specs.Work.{place_of}
use Rattle.cam_body.proofs.Kept.{step_at}
use Rattle.cam_body.proofs.progress.progress_of.Goals as goal

pub loop-step-init : goal.loop-step-init
loop-step-init c =
    record {
      done = omega (arith, c.new-progress.ensures.none.0);
      failed = omega (arith, c.new-progress.ensures.none.1);
      at = λ body. c.new-progress.ensures.at body c.args.wanted;
    }

pub loop-step-preserved : goal.loop-step-preserved
loop-step-preserved c =
    record {
      done = omega (arith, c.loop-step.invariant.done, c.after-progress.ensures.grows.0);
      failed = omega (arith, c.loop-step.invariant.failed, c.after-progress.ensures.grows.1);
      at = λ body.
          step_at body c.as_slice-step-items.result.now c.loop-step.step-index c.step-item.result c.args.wanted c.after-progress.result c.loop-step-test.true c.step-item.is
          (c.after-progress.ensures.at body (place_of body (take c.loop-step.step-index c.as_slice-step-items.result.now)) (c.loop-step.invariant.at body));
    }
