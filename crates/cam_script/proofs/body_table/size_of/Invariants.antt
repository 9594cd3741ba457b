use Rattle.std.proofs.Common.{◌≡◌, List, take}
use Rattle.std.specs.Prelude.{map}
use Rattle.cam_script.specs.SoFar.{Size}
use Rattle.cam_script.specs.BodyTable.{capped, size_of}
use Rattle.cam_script.proofs.body_table.size_of.Given as goal

abbrev pub invariant-loop-statement : goal.invariant-loop-statement
invariant-loop-statement l = (all : List Size) → l.sizes ≡ map capped all → l.size ≡ capped (size_of all (take l.statement-index l.statements))
