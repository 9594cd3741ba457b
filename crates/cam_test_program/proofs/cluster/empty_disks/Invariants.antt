-- As many disks as turns were made.
use Rattle.std.proofs.Common.{◌≡◌, length}
use Rattle.cam_test_program.proofs.cluster.empty_disks.Given as goal

abbrev pub invariant-loop : goal.invariant-loop
invariant-loop l = length l.disks.items ≡ l.counter
