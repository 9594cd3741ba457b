use Rattle.std.proofs.Common.{◌≡◌, string_bytes}
use Rattle.cam_columns.specs.Text.{heads}
use Rattle.cam_columns.proofs.text.heads_of.Given as goal

abbrev pub invariant-loop-before : goal.invariant-loop-before
invariant-loop-before l = string_bytes l.text ≡ heads l.before
