use Rattle.std.proofs.Common.{◌≡◌, take}
use Rattle.std.specs.Prelude.{flat_map}
use Rattle.cam_know.specs.Known.{committed_name}
use Rattle.cam_locks.specs.Names.{once}
use Rattle.cam_locks.proofs.restore.committed_names.Given as goal

abbrev pub invariant-loop-outcome : goal.invariant-loop-outcome
invariant-loop-outcome l = l.names.names ≡ once (flat_map committed_name (take l.outcome-index l.outcomes))
