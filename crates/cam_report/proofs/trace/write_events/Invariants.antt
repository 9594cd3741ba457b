use Rattle.std.proofs.Common.{◌≡◌, ◌++◌, take, reverse, string_bytes}
use Rattle.cam_report.specs.Traces.{events_text}
use Rattle.cam_report.proofs.trace.write_events.Given as goal

abbrev pub invariant-loop-number : goal.invariant-loop-number
invariant-loop-number l = string_bytes l.out ≡ string_bytes l.fn.out ++ events_text l.labels (reverse (take l.number l.trace))
