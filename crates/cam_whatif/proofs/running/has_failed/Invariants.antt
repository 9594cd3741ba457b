-- None of the disks so far has failed.
use Rattle.std.proofs.Common.{◌≡◌, take}
use Rattle.std.specs.List.{All}
use Rattle.cam_whatif.proofs.running.has_failed.Given as goal

abbrev pub invariant-loop-disk : goal.invariant-loop-disk
invariant-loop-disk g l = All (λ d. g.D.Disk.faults d ≡ 0) (take l.disk-index l.disks)
