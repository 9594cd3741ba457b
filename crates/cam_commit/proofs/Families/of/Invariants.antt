use Rattle.std.proofs.Common.{map, take}
use Rattle.cam_commit.specs.Calls.{answers}
use Rattle.cam_commit.specs.Events.{AreRecovered}
use Rattle.cam_commit.proofs.Families.of.Given as goal

-- The families so far are secured.
abbrev pub invariant-loop-one : goal.invariant-loop-one
invariant-loop-one l = AreRecovered (map (λ h. h.family) (take l.one-index l.held)) (answers l.families)
