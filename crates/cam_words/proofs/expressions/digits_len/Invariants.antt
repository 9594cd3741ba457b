use Rattle.std.proofs.Common.{◌≡◌, ◌++◌, take, drop}
use Rattle.cam_words.specs.Expressions.{digits_in_front, behind_digits}
use Rattle.cam_words.proofs.expressions.digits_len.Given as goal

abbrev pub invariant-loop-i : goal.invariant-loop-i
invariant-loop-i l =
    (take l.i l.text ++ digits_in_front (drop l.i l.text) ≡ digits_in_front l.text)
    × (behind_digits (drop l.i l.text) ≡ behind_digits l.text)
