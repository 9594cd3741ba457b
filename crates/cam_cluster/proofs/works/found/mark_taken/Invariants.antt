-- No mark after the place is of a halt of the node.
use Rattle.std.proofs.Common.{◌≡◌, ◌≤◌, false, drop, length}
use Rattle.std.specs.List.{list_any}
use Rattle.cam_histories.specs.Found.{is_halt_of}
use Rattle.cam_cluster.proofs.works.found.mark_taken.Given as goal

abbrev pub invariant-loop-at : goal.invariant-loop-at
invariant-loop-at l = record {
  same : l.marks ≡ l.initial.marks;
  within : l.at ≤ length l.marks;
  none : list_any (is_halt_of l.node) (drop l.at l.marks) ≡ false;
}

abbrev pub decreases-loop-at : goal.decreases-loop-at
decreases-loop-at l = l.at
