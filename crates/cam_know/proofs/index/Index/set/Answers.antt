-- There is room, so the insertion does not fail.
use Rattle.std.proofs.Common.{arith}
use Rattle.cam_know.proofs.Noting.{entry_set}
use Rattle.cam_know.proofs.index.Index.set.Goals as goal

pub returns-clause-value : goal.returns-clause-value
returns-clause-value c =
    entry_set c.insert.result c.args.self.now (record { entries = c.insert.new.self }) c.args.name.now c.args.entry.now
    (c.insert.ensures.succeeds (omega (arith, c.requires))) c.insert.ensures.updates
