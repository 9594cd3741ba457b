use Rattle.std.proofs.Common.{◌≡◌, take}
use Rattle.cam_shrink.specs.Cuts.{without}
use Rattle.cam_shrink.proofs.cuts.without.Given as goal

abbrev pub invariant-loop-place : goal.invariant-loop-place
invariant-loop-place l = l.left ≡ without l.cut (take l.place-index l.kept)
