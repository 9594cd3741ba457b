use Rattle.std.proofs.Common.{◌≡◌, ℕ, ◌≤◌, ◌<◌, max, length, get_or}
use Rattle.cam_own.proofs.depending.greater.Given as goal

abbrev pub invariant-loop-node : goal.invariant-loop-node
invariant-loop-node l =
    (length l.counts ≡ 8)
    × ((k : ℕ) → k < l.node → get_or l.counts k 0 ≡ max (get_or l.initial.counts k 0) (get_or l.other k 0))
    × ((k : ℕ) → l.node ≤ k → get_or l.counts k 0 ≡ get_or l.initial.counts k 0)
