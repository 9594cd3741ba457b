use Rattle.std.proofs.Common.{arith}
use Rattle.cam_wire.proofs.Steps.{counts_in_range}
use Rattle.cam_wire.proofs.reading.counts_at.Goals as goal

pub returns-clause-range : goal.returns-clause-range
returns-clause-range c = counts_in_range c.args.at c.args.bytes.now c.counts_above_at.result (λ i. omega (arith, c.type_inv.bytes i)) c.counts_above_at.ensures.value
