use Rattle.std.proofs.Common.{ℕ, ◌-◌, ◌≤◌, ◌<◌, length, get_or}
use Rattle.cam_locks.specs.declared.live.Slot.{Slot}
use Rattle.cam_locks.proofs.live.place_of.Given as goal

abbrev pub invariant-loop-low : goal.invariant-loop-low
invariant-loop-low l =
    (l.low ≤ l.high) × (l.high ≤ length l.slots)
    × ((k : ℕ) (s : Slot) → k < l.low → (get_or l.slots k s).operation.index < l.index)
    × ((k : ℕ) (s : Slot) → l.high ≤ k → k < length l.slots → l.index ≤ (get_or l.slots k s).operation.index)

abbrev pub decreases-loop-low : goal.decreases-loop-low
decreases-loop-low l = l.high - l.low
