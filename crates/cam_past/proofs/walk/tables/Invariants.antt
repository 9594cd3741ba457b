use Rattle.std.proofs.Common.{◌≡◌, reverse, length}
use Rattle.cam_past.specs.Tables.{AreTables}
use Rattle.cam_past.proofs.walk.tables.Given as goal

abbrev pub invariant-loop-number : goal.invariant-loop-number
invariant-loop-number l = (length l.tables ≡ l.number) × AreTables (reverse l.trace) l.number l.tables
