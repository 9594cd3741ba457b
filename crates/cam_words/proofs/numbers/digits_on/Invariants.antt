use Rattle.std.proofs.Common.{◌≡◌, ◌≤◌, drop}
use Rattle.cam_words.specs.Numbers.{digits_on}
use Rattle.cam_words.proofs.numbers.digits_on.Given as goal

abbrev pub invariant-loop-byte : goal.invariant-loop-byte
invariant-loop-byte l =
    (l.number ≤ l.limit)
    × (digits_on l.limit l.number (drop l.byte-index l.digits) ≡ digits_on l.limit 0 l.digits)
