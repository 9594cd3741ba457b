-- What the letter of a call says of dependencies is not looked at.
use Rattle.std.proofs.Common.{arith}
use Rattle.cam_rules.proofs.arrivals.arrive.Goals as goal

pub returns-in-Call : goal.returns-in-Call
returns-in-Call g c =
    let called = c.call_comes.ensures c.in-Call.deps in
    grind (arith, called)
