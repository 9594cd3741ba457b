use Rattle.std.proofs.Common.{◌≡◌, take}
use Rattle.cam_own.specs.Live.{without_below}
use Rattle.cam_own.proofs.live.without_below.Given as goal

abbrev pub invariant-loop-operation : goal.invariant-loop-operation
invariant-loop-operation l =
    l.left ≡ without_below l.name (take l.operation-index l.operation-items)
