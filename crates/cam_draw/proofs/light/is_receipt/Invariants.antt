use Rattle.std.proofs.Common.{◌≡◌, take}
use Rattle.std.specs.List.{list_any}
use Rattle.cam_draw.specs.Light.{is_receipt}
use Rattle.cam_draw.proofs.light.is_receipt.Given as goal

abbrev pub invariant-loop-link : goal.invariant-loop-link
invariant-loop-link l = l.found ≡ list_any (is_receipt l.number) (take l.link-index l.link-items)
