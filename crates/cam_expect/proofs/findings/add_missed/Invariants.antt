use Rattle.std.proofs.Common.{◌≡◌, ◌++◌, map, take}
use Rattle.std.specs.List.{flat_map}
use Rattle.cam_expect.specs.Findings.{found_at, missed}
use Rattle.cam_expect.proofs.findings.add_missed.Given as goal

abbrev pub invariant-loop-expectation : goal.invariant-loop-expectation
invariant-loop-expectation l =
    map found_at l.findings ≡ map found_at l.fn.findings ++ flat_map (missed l.facts) (take l.expectation-index l.expectations)
