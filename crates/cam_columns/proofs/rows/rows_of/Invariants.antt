use Rattle.std.proofs.Common.{◌≡◌, ◌++◌, map, take, drop, length}
use Rattle.cam_columns.specs.Rows.{place, places}
use Rattle.cam_columns.proofs.rows.rows_of.Given as goal

abbrev pub invariant-loop-number : goal.invariant-loop-number
invariant-loop-number l = map place l.rows ++ places l.number (drop l.number l.run.trace) ≡ places 0 l.run.trace
