use Rattle.std.proofs.Common.{◌≡◌, ◌++◌, take, reverse, string_bytes}
use Rattle.cam_report.specs.Report.{stops_text}
use Rattle.cam_report.proofs.stops.write_stops.Given as goal

abbrev pub invariant-loop-number : goal.invariant-loop-number
invariant-loop-number l = string_bytes l.out ≡ string_bytes l.fn.out ++ stops_text (reverse (take l.number l.trace))
