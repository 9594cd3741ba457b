use Rattle.std.proofs.Common.{◌≡◌, drop, reverse}
use Rattle.cam_node.specs.Informs.{commits_from}
use Rattle.cam_node.proofs.informs.new_commits.Given as goal

-- what is told from the place on
abbrev pub invariant-loop-place : goal.invariant-loop-place
invariant-loop-place l = reverse l.names.items ≡ commits_from l.known (drop l.place l.told)
