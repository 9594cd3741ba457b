-- How many of the ends so far are the end.
use Rattle.std.proofs.Common.{◌≡◌, ◌≤◌, map, string_bytes, take}
use Rattle.cam_sweep.specs.Tally.{times}
use Rattle.cam_sweep.proofs.tallying.times.Given as goal

abbrev pub invariant-loop-other : goal.invariant-loop-other
invariant-loop-other l = record {
  many : l.count ≡ times (string_bytes l.end) (map string_bytes (take l.other-index l.ends));
  few : l.count ≤ l.other-index;
}
