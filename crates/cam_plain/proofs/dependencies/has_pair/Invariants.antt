use Rattle.std.proofs.Common.{◌≡◌, drop}
use Rattle.cam_names.specs.Dependencies.{has_pair}
use Rattle.cam_plain.proofs.dependencies.has_pair.Given as goal

abbrev pub invariant-loop-pair : goal.invariant-loop-pair
invariant-loop-pair l = has_pair (drop l.pair-index l.pair-items) l.node l.count ≡ has_pair l.pair-items l.node l.count
