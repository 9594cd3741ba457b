use Rattle.std.proofs.Common.{◌≡◌, take}
use Rattle.std.specs.Prelude.{flat_map}
use Rattle.cam_know.specs.Known.{aborted_name}
use Rattle.cam_locks.specs.Names.{once}
use Rattle.cam_locks.proofs.restore.aborted_names.Given as goal

abbrev pub invariant-loop-outcome : goal.invariant-loop-outcome
invariant-loop-outcome l = l.names.names ≡ once (flat_map aborted_name (take l.outcome-index l.outcomes))
