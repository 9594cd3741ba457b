use Rattle.std.proofs.Common.{◌≡◌, take}
use Rattle.cam_locks.specs.Live.{live_of}
use Rattle.cam_locks.proofs.live.Live.to_vec.Given as goal

abbrev pub invariant-loop-slot : goal.invariant-loop-slot
invariant-loop-slot l = l.all.items ≡ live_of (take l.slot-index l.slot-items)
