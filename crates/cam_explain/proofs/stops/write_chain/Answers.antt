use Rattle.std.proofs.Common.{◌≡◌, ℕ, ◌^◌, ◌<◌, ◌++◌, List, reverse, string_bytes, rules, arith, ap, ◌∙◌}
use Rattle.cam_explain.proofs.Causes.{chain_is}
use Rattle.cam_explain.proofs.stops.write_chain.Goals as goal

pub returns-in_ok-write_why-in-Ok-chain : goal.returns-in_ok-write_why-in-Ok-chain
returns-in_ok-write_why-in-Ok-chain c = λ reason whole stops.
    let same : c.in-Ok.number ≡ c.args.event = search rules in
    let small : c.in-Ok.number < 2 ^ 32 = omega arith in
    c.in_ok-write_why-in-Ok-chain.ensures
    ∙ ap (λ (text : List ℕ). string_bytes c.args.out.now ++ text)
    (chain_is c.args.scope.now (reverse c.args.trace.now) c.args.event c.in-Ok.number c.in-Ok-chain.why reason same small whole
    (c.in-Ok-chain.ensures.why whole) stops)
