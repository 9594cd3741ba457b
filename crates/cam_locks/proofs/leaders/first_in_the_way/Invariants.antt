use Rattle.std.proofs.Common.{◌≡◌, ◌≤◌, ◌-◌, take, None, length}
use Rattle.cam_locks.specs.Changes.{first_standing, LeadersStay}
use Rattle.cam_locks.proofs.LeadersPassed.{ArePast}
use Rattle.cam_locks.proofs.leaders.first_in_the_way.Given as goal

abbrev pub invariant-loop-place : goal.invariant-loop-place
invariant-loop-place l =
    LeadersStay l.committed.names l.live.ops l.initial.leaders.items l.leaders.items
    × (None ≡ first_standing l.committed.names l.live.ops l.name (take l.place l.leaders.items))
    × (l.place ≤ length l.leaders.items)
    × ArePast l.committed.names l.live.ops l.name l.is_past (take l.place l.leaders.items)

abbrev pub decreases-loop-place : goal.decreases-loop-place
decreases-loop-place l = length l.leaders.items - l.place
