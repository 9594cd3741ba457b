-- The halts before the place stand after the event.
use Rattle.std.proofs.Common.{◌≡◌, ◌++◌, drop, take, length}
use Rattle.cam_cluster.specs.OpenHalts.{open_beside}
use Rattle.cam_cluster.proofs.works.undecided.take_found.Given as goal

abbrev pub invariant-loop-at : goal.invariant-loop-at
invariant-loop-at l = record {
  many : length l.halts.items ≡ length l.initial.halts.items;
  so_far :
      take l.at l.halts.items ++ open_beside l.node l.place (drop l.at l.halts.items)
      ≡ open_beside l.node l.place l.initial.halts.items;
}
