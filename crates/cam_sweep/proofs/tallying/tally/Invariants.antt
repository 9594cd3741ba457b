-- What is told so far, and what the rest gives.
use Rattle.std.proofs.Common.{◌≡◌, ◌++◌, drop, map, string_bytes, take}
use Rattle.cam_sweep.specs.Tally.{pair_of, tally, tally_from}
use Rattle.cam_sweep.proofs.tallying.tally.Given as goal

abbrev pub invariant-loop-first : goal.invariant-loop-first
invariant-loop-first l = map pair_of l.tallied.items
    ++ tally_from (map string_bytes l.ends) l.first (map string_bytes (take l.first l.ends)) (map string_bytes (drop l.first l.ends))
    ≡ tally (map string_bytes l.ends)
