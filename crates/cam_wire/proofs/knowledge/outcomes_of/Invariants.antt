use Rattle.std.proofs.Common.{◌≡◌, take, map}
use Rattle.cam_know.specs.declared.Outcome.TheVariants.{Aborted}
use Rattle.cam_wire.specs.Reading.{outcomes_of}
use Rattle.cam_wire.proofs.knowledge.outcomes_of.Given as goal

abbrev pub invariant-loop-name : goal.invariant-loop-name
invariant-loop-name l = l.outcomes ≡ map Aborted (take l.name-index l.name-items)

abbrev pub invariant-loop-name-2 : goal.invariant-loop-name-2
invariant-loop-name-2 l = l.outcomes ≡ outcomes_of l.aborts (take l.name-index l.name-items)
