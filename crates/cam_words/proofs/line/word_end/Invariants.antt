use Rattle.std.proofs.Common.{◌≡◌, ◌+◌, drop}
use Rattle.cam_words.specs.Words.{word_end}
use Rattle.cam_words.proofs.line.word_end.Given as goal

abbrev pub invariant-loop-i : goal.invariant-loop-i
invariant-loop-i l = word_end (l.at + l.i) (drop l.i l.rest) ≡ word_end l.at l.rest
