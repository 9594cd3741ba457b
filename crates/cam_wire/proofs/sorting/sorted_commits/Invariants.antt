use Rattle.std.proofs.Common.{◌≡◌, drop, flat_map}
use Rattle.cam_wire.specs.Spelling.{committed_pair, sorted_commits}
use Rattle.cam_wire.proofs.sorting.sorted_commits.Given as goal

-- what stands behind is put in
abbrev pub invariant-loop-place : goal.invariant-loop-place
invariant-loop-place l = l.commits.entries ≡ sorted_commits (flat_map committed_pair (drop l.place l.outcomes))
