use Rattle.std.proofs.Common.{◌≡◌, drop, flat_map}
use Rattle.cam_know.specs.Known.{aborted_name}
use Rattle.cam_event.specs.Rules.{sorted_names}
use Rattle.cam_wire.proofs.sorting.sorted_aborts.Given as goal

-- what stands behind is put in
abbrev pub invariant-loop-place : goal.invariant-loop-place
invariant-loop-place l = l.aborts.keys ≡ sorted_names (flat_map aborted_name (drop l.place l.outcomes))
