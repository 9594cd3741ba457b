use Rattle.std.proofs.Common.{◌≡◌, take}
use Rattle.cam_own.specs.Children.{without}
use Rattle.cam_own.proofs.children.without.Given as goal

abbrev pub invariant-loop-other : goal.invariant-loop-other
invariant-loop-other l = l.kept ≡ without l.name (take l.other-index l.other-items)
