use Rattle.std.proofs.Common.{◌≡◌, take}
use Rattle.std.specs.List.{list_any}
use Rattle.cam_draw.specs.Light.{is_seen}
use Rattle.cam_draw.proofs.light.sees_any.Given as goal

abbrev pub invariant-loop-deed : goal.invariant-loop-deed
invariant-loop-deed l = l.found ≡ list_any (is_seen l.action) (take l.deed-index l.deed-items)
