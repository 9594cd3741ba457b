use Rattle.std.proofs.Common.{◌≡◌}
use Rattle.cam_shrink.specs.Cuts.{places_below}
use Rattle.cam_shrink.proofs.cuts.places_below.Given as goal

abbrev pub invariant-loop-place : goal.invariant-loop-place
invariant-loop-place l = l.places ≡ places_below l.place
