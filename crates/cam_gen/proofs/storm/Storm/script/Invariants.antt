use Rattle.std.proofs.Common.{◌≡◌, map}
use Rattle.std.specs.Prelude.{flat_map}
use Rattle.cam_gen.specs.Storms.{bodies_at, numbers, start_step}
use Rattle.cam_gen.proofs.storm.Storm.script.Given as goal

-- the bodies and the starts so far
abbrev pub invariant-loop-before : goal.invariant-loop-before
invariant-loop-before l =
    (l.bodies ≡ flat_map (bodies_at l.self) (numbers l.before))
    × (l.steps ≡ map (start_step l.self) (numbers l.before))
