use Rattle.std.proofs.Common.{◌≡◌, ℕ, ◌≤◌, ◌<◌, max, length, get_or}
use Rattle.cam_past.proofs.clock.Clock.join.Given as goal

abbrev pub invariant-loop-place : goal.invariant-loop-place
invariant-loop-place l =
    (length l.latest ≡ 8)
    × ((k : ℕ) → k < l.place → get_or l.latest k 0 ≡ max (get_or l.initial.latest k 0) (get_or l.other.latest k 0))
    × ((k : ℕ) → l.place ≤ k → get_or l.latest k 0 ≡ get_or l.initial.latest k 0)
