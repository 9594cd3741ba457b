use Rattle.std.proofs.Common.{◌≡◌, ◌++◌, map, take}
use Rattle.std.specs.List.{flat_map}
use Rattle.cam_expect.specs.Findings.{found_at, unexpected}
use Rattle.cam_expect.proofs.findings.add_unexpected.Given as goal

abbrev pub invariant-loop-mark : goal.invariant-loop-mark
invariant-loop-mark l =
    map found_at l.findings ≡ map found_at l.fn.findings ++ flat_map (unexpected l.expectations) (take l.mark-index l.mark-items)
