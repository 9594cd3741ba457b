use Rattle.std.proofs.Common.{◌≡◌, drop}
use Rattle.cam_draw.specs.Deeds.{first_doer}
use Rattle.cam_draw.proofs.subject.subject_of.Given as goal

abbrev pub invariant-loop-deed : goal.invariant-loop-deed
invariant-loop-deed l = first_doer (drop l.deed-index l.deeds) ≡ first_doer l.deeds
