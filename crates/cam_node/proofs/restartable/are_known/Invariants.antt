-- The nodes that are left say whether no count is above the known one.
use Rattle.std.proofs.Common.{◌≡◌, ◌≤◌, ◌-◌, []}
use Rattle.std.specs.Prelude.{nat_le, slice_index}
use Rattle.cam_commit.proofs.Pairs.{all_from}
use Rattle.cam_node.specs.Lawful.{are_known}
use Rattle.cam_node.proofs.restartable.are_known.Given as goal

abbrev pub invariant-loop-node : goal.invariant-loop-node
invariant-loop-node l =
    (1 ≤ l.node) × (l.node ≤ 9)
    × (are_known (record { outcomes = []; counts = l.known }) l.deps
    ≡ all_from (λ p. nat_le p.1 (slice_index l.known (p.0 - 1))) l.node (l.node - 1) l.deps)
