use Rattle.std.proofs.Common.{◌≡◌, drop}
use Rattle.cam_words.specs.Lines.{bad_byte}
use Rattle.cam_words.proofs.lines.bad_byte.Given as goal

abbrev pub invariant-loop-i : goal.invariant-loop-i
invariant-loop-i l = bad_byte l.i (drop l.i l.line) ≡ bad_byte 0 l.line
