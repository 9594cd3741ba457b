use Rattle.std.proofs.Common.{◌≡◌, string_bytes}
use Rattle.cam_columns.specs.Text.{lanes}
use Rattle.cam_columns.proofs.lanes.push_lanes.Given as goal

abbrev pub invariant-loop-before : goal.invariant-loop-before
invariant-loop-before l = string_bytes l.line ≡ lanes (string_bytes l.fn.line) l.node l.mark l.text l.before
