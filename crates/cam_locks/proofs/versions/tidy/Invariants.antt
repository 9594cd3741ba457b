use Rattle.std.proofs.Common.{vec_len}
use Rattle.cam_locks.specs.Changes.{VersionsStay}
use Rattle.cam_locks.specs.Kinds.{KindsStay}
use Rattle.cam_locks.proofs.versions.tidy.Given as goal

abbrev pub invariant-loop-last : goal.invariant-loop-last
invariant-loop-last l =
    VersionsStay l.committed.names l.live.ops l.initial.versions.items l.versions.items × KindsStay l.initial.versions.items l.versions.items

abbrev pub decreases-loop-last : goal.decreases-loop-last
decreases-loop-last l = vec_len l.versions
