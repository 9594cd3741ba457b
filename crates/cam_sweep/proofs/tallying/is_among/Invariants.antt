-- None of the ends so far is the end.
use Rattle.std.proofs.Common.{◌≡◌, drop, map, string_bytes}
use Rattle.cam_sweep.specs.Tally.{is_among}
use Rattle.cam_sweep.proofs.tallying.is_among.Given as goal

abbrev pub invariant-loop-other : goal.invariant-loop-other
invariant-loop-other l = is_among (string_bytes l.end) (map string_bytes (drop l.other-index l.ends)) ≡ is_among (string_bytes l.end) (map string_bytes l.ends)
