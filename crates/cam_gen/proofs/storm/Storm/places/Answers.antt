use Rattle.std.proofs.Common.{◌≡◌, ℕ, suc, ◌+◌, ◌*◌, arith, ap, ◌∙◌}
use Rattle.cam_gen.specs.Draws.{next_state, state_after}
use Rattle.cam_gen.proofs.storm.Storm.places.Goals as goal

-- two numbers more
pub loop-preserved : goal.loop-preserved
loop-preserved c =
    let seed = c.args.self.now.seed in
    let n = c.loop.counter in
    c.draw-in-loop.ensures.state ∙ ap next_state c.draw.ensures.state
    ∙ ap (λ s. next_state (next_state s)) c.loop.invariant
    ∙ ap (state_after seed) (two_more n)
  where
    two_more : (n : ℕ) → suc (suc (2 * n)) ≡ 2 * (n + 1)
    two_more n = omega arith
