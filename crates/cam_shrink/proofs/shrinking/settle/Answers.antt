use Rattle.cam_shrink.proofs.Filters.{part_part, part_whole}
use Rattle.cam_shrink.proofs.shrinking.settle.Goals as goal

pub loop-kept-init : goal.loop-kept-init
loop-kept-init g c = (part_whole c.args.kept.now, λ h. h)

pub loop-kept-preserved : goal.loop-kept-preserved
loop-kept-preserved g c = (
  part_part c.try_cuts.new.kept c.loop-kept.kept c.args.kept.now c.in_ok-try_cuts.ensures.part c.loop-kept.invariant.0,
  λ h. c.in_ok-try_cuts.ensures.passes (c.loop-kept.invariant.1 h),
)
