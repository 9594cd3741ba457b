-- Those that are left have the newest of the node.
use Rattle.std.proofs.Common.{◌≡◌, drop}
use Rattle.cam_cluster.specs.OpenHalts.{open_halt_of}
use Rattle.cam_cluster.proofs.works.undecided.newest_of.Given as goal

abbrev pub invariant-loop-halt : goal.invariant-loop-halt
invariant-loop-halt l =
    open_halt_of l.node (drop l.halt-index l.halts) ≡ open_halt_of l.node l.halts
