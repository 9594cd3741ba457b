-- As many disks as turns were made.
use Rattle.std.proofs.Common.{◌≡◌, length}
use Rattle.cam_test_program.proofs.run.failing.disks.Given as goal

abbrev pub invariant-loop-place : goal.invariant-loop-place
invariant-loop-place l = length l.disks.items ≡ l.place
