-- As many disks as turns were made.
use Rattle.std.proofs.Common.{◌≡◌, length}
use Rattle.cam_whatif.proofs.running.disks_for.Given as goal

abbrev pub invariant-loop-before : goal.invariant-loop-before
invariant-loop-before l = length l.disks.items ≡ l.before
