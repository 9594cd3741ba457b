use Rattle.std.proofs.Common.{◌≡◌, take}
use Rattle.cam_know.specs.Known.{unknown}
use Rattle.cam_know.proofs.know.Know.unknown.Given as goal

abbrev pub invariant-loop-outcome : goal.invariant-loop-outcome
invariant-loop-outcome l = l.fresh ≡ unknown l.self (take l.outcome-index l.outcomes)
