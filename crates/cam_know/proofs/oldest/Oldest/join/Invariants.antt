use Rattle.std.proofs.Common.{◌≡◌, ℕ, ◌≤◌, ◌<◌, length, get_or}
use Rattle.cam_know.specs.LeastCounts.{lesser_count}
use Rattle.cam_know.proofs.oldest.Oldest.join.Given as goal

abbrev pub invariant-loop-node : goal.invariant-loop-node
invariant-loop-node l =
    (length l.counts ≡ 8)
    × ((k : ℕ) → k < l.node → get_or l.counts k 0 ≡ lesser_count (get_or l.initial.counts k 0) (get_or l.other-inside.counts k 0))
    × ((k : ℕ) → l.node ≤ k → get_or l.counts k 0 ≡ get_or l.initial.counts k 0)
