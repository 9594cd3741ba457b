use Rattle.std.proofs.Common.{◌≡◌, ◌≤◌, true, drop, None, length}
use Rattle.cam_locks.specs.Changes.{is_current, last_current}
use Rattle.cam_locks.proofs.versions.last_settled.Given as goal

abbrev pub invariant-loop-place : goal.invariant-loop-place
invariant-loop-place l = (last_current (is_current l.committed.names l.live.ops true) (drop l.place l.versions) ≡ None) × (l.place ≤ length l.versions)

abbrev pub decreases-loop-place : goal.decreases-loop-place
decreases-loop-place l = l.place
