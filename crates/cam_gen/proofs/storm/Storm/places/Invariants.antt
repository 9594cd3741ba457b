use Rattle.std.proofs.Common.{◌≡◌, ◌*◌}
use Rattle.cam_gen.specs.Draws.{state_after}
use Rattle.cam_gen.proofs.storm.Storm.places.Given as goal

-- two numbers were drawn for each top action before
abbrev pub invariant-loop : goal.invariant-loop
invariant-loop l = l.draws.state ≡ state_after l.self.seed (2 * l.counter)
