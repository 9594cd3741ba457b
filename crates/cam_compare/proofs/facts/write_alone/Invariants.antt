-- What is told so far, and what the facts that are left give.
use Rattle.std.proofs.Common.{◌≡◌, ◌++◌, string_bytes}
use Rattle.std.specs.List.{flat_map}
use Rattle.cam_compare.specs.Alone.{alone}
use Rattle.cam_compare.proofs.facts.write_alone.Given as goal

abbrev pub invariant-loop-fact : goal.invariant-loop-fact
invariant-loop-fact l =
    string_bytes l.out ++ flat_map (alone l.mark l.others) l.fact-iterator
    ≡ string_bytes l.fn.out ++ flat_map (alone l.mark l.others) l.facts.keys
