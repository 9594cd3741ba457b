use Rattle.std.proofs.Common.{◌≡◌, ◌+◌, drop}
use Rattle.cam_words.specs.Words.{blanks_end}
use Rattle.cam_words.proofs.line.blanks_end.Given as goal

abbrev pub invariant-loop-i : goal.invariant-loop-i
invariant-loop-i l = blanks_end (l.at + l.i) (drop l.i l.rest) ≡ blanks_end l.at l.rest
