use Rattle.std.proofs.Common.{◌≡◌, take}
use Rattle.std.specs.List.{list_any}
use Rattle.cam_draw.specs.Light.{is_end}
use Rattle.cam_draw.proofs.light.is_end.Given as goal

abbrev pub invariant-loop-link : goal.invariant-loop-link
invariant-loop-link l = l.found ≡ list_any (is_end l.number) (take l.link-index l.link-items)
