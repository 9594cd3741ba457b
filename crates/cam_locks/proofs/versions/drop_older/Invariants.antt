use Rattle.std.proofs.Common.{◌≡◌, ◌≤◌, ◌∷◌, [], ◌++◌, vec_len}
use Rattle.std.specs.Vec.{vec_capacity}
use Rattle.cam_locks.specs.Changes.{VersionsStay}
use Rattle.cam_locks.specs.Kinds.{KindsStay}
use Rattle.cam_locks.proofs.versions.drop_older.Given as goal

abbrev pub invariant-loop-version : goal.invariant-loop-version
invariant-loop-version l =
    VersionsStay l.committed.names l.live.ops (l.initial.versions.items ++ l.later ∷ []) (l.versions.items ++ l.later ∷ [])
    × (vec_len l.versions ≤ vec_len l.initial.versions) × (vec_capacity l.versions ≡ vec_capacity l.initial.versions)
    × KindsStay l.initial.versions.items l.versions.items

abbrev pub decreases-loop-version : goal.decreases-loop-version
decreases-loop-version l = vec_len l.versions
