-- None of the nodes before this one is newly halted.
use Rattle.std.proofs.Common.{◌≤◌, ℕ}
use Rattle.cam_cluster.specs.Clusters.{IsNewlyHalted}
use Rattle.cam_cluster.proofs.cluster.first_halted.Given as goal

abbrev pub invariant-loop-place : goal.invariant-loop-place
invariant-loop-place l =
    (s : ℕ) → 1 ≤ s → s ≤ l.place → IsNewlyHalted l.before l.after s → ⊥
