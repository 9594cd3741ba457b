use Rattle.std.proofs.Common.{◌≡◌, ◌++◌, drop, reverse, string_bytes}
use Rattle.cam_why.specs.Causes.{IsWhole}
use Rattle.cam_explain.specs.Stops.{stops_from}
use Rattle.cam_explain.proofs.stops.write_stops.Given as goal

abbrev pub invariant-loop-number : goal.invariant-loop-number
invariant-loop-number l =
    IsWhole (reverse l.run.trace)
    → string_bytes l.out ++ stops_from l.scope (reverse l.run.trace) l.number (drop l.number l.run.trace)
    ≡ string_bytes l.fn.out ++ stops_from l.scope (reverse l.run.trace) 0 l.run.trace
