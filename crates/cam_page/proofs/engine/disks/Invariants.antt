-- As many disks as turns were made, and none has failed.
use Rattle.std.proofs.Common.{◌≡◌, All, length}
use Rattle.cam_page.proofs.engine.disks.Given as goal

abbrev pub invariant-loop-before : goal.invariant-loop-before
invariant-loop-before l =
    (length l.disks.items ≡ l.before) × All (λ d. d.faults ≡ 0) l.disks.items
