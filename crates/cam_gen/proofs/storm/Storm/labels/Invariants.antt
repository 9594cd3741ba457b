use Rattle.std.proofs.Common.{◌≡◌, ◌++◌, map}
use Rattle.std.specs.Prelude.{codes, decimal}
use Rattle.cam_gen.specs.Storms.{numbers}
use Rattle.cam_gen.proofs.storm.Storm.labels.Given as goal

-- the names so far
abbrev pub invariant-loop-before : goal.invariant-loop-before
invariant-loop-before l = l.labels ≡ map (λ i. codes "r" ++ decimal i) (numbers l.before)
