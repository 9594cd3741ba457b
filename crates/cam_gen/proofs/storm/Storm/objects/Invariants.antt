use Rattle.std.proofs.Common.{◌≡◌, ◌+◌, map}
use Rattle.std.specs.Prelude.{◌%◌}
use Rattle.cam_gen.specs.Storms.{numbers, register_at}
use Rattle.cam_gen.proofs.storm.Storm.objects.Given as goal

-- the registers so far
abbrev pub invariant-loop-number : goal.invariant-loop-number
invariant-loop-number l = l.objects ≡ map (λ i. register_at (1 + i % 4)) (numbers l.number)

abbrev pub invariant-loop-before : goal.invariant-loop-before
invariant-loop-before l = l.objects ≡ map register_at (numbers l.before)
