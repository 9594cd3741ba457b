use Rattle.std.proofs.Common.{◌≡◌, ◌++◌, replicate, string_bytes}
use Rattle.cam_columns.proofs.lanes.pad.Given as goal

abbrev pub invariant-loop-done : goal.invariant-loop-done
invariant-loop-done l = string_bytes l.line ≡ string_bytes l.fn.line ++ replicate l.done 32
