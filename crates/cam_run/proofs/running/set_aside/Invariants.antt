-- What is left and what is aside are the whole.
use Rattle.std.proofs.Common.{◌≡◌, ◌≤◌, ◌+◌, ◌++◌, reverse, vec_len, vec_capacity}
use Rattle.cam_run.proofs.running.set_aside.Given as goal

abbrev pub invariant-loop-disks : goal.invariant-loop-disks
invariant-loop-disks g l =
    (l.disks.items ++ reverse l.further.items ≡ l.initial.disks.items)
    × (l.first ≤ vec_len l.disks)
    × (vec_len l.disks + vec_len l.further ≡ vec_len l.initial.disks)
    × (vec_capacity l.initial.disks ≤ vec_capacity l.disks)
    × (vec_capacity l.initial.further ≤ vec_capacity l.further)

abbrev pub decreases-loop-disks : goal.decreases-loop-disks
decreases-loop-disks g l = vec_len l.disks
