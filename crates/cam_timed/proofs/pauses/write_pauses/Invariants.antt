use Rattle.std.proofs.Common.{◌≡◌, ◌++◌, take, reverse, string_bytes}
use Rattle.cam_timed.specs.TimedReport.{pauses_text}
use Rattle.cam_timed.proofs.pauses.write_pauses.Given as goal

abbrev pub invariant-loop-number : goal.invariant-loop-number
invariant-loop-number l = string_bytes l.out ≡ string_bytes l.fn.out ++ pauses_text (reverse l.timed) (reverse (take l.number l.timed))
