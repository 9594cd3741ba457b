use Rattle.std.proofs.Common.{◌≡◌, ◌≤◌, ◌-◌}
use Rattle.cam_commit.specs.Calls.{answers, has_with, is_last}
use Rattle.cam_commit.proofs.Pairs.{all_from}
use Rattle.cam_commit.proofs.Families.is_last.Given as goal

-- The votes of the nodes before this one are there: what is asked of all is asked of those that are left.
abbrev pub invariant-loop-node : goal.invariant-loop-node
invariant-loop-node l =
    (1 ≤ l.node) × (l.node ≤ 9)
    × (is_last (answers l.self) l.vote l.deps
    ≡ all_from (λ p. has_with (answers l.self) l.vote p.0 p.1) l.node (l.node - 1) l.deps)
