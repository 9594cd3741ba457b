-- What is put back and what is still aside are the whole.
use Rattle.std.proofs.Common.{◌≡◌, ◌≤◌, ◌+◌, ◌++◌, reverse, vec_len, vec_capacity}
use Rattle.cam_run.proofs.running.put_back.Given as goal

abbrev pub invariant-loop-disk : goal.invariant-loop-disk
invariant-loop-disk g l =
    (l.disks.items ++ reverse l.further.items
    ≡ l.initial.disks.items ++ reverse l.initial.further.items)
    × (vec_len l.disks + vec_len l.further ≡ vec_len l.initial.disks + vec_len l.initial.further)
    × (vec_capacity l.initial.disks ≤ vec_capacity l.disks)

abbrev pub decreases-loop-disk : goal.decreases-loop-disk
decreases-loop-disk g l = vec_len l.further
