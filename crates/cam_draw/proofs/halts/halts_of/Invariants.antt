use Rattle.std.proofs.Common.{◌≡◌, map, take}
use Rattle.std.specs.List.{flat_map}
use Rattle.cam_draw.specs.Surroundings.{halt_of, halt_saying}
use Rattle.cam_draw.proofs.halts.halts_of.Given as goal

abbrev pub invariant-loop-mark : goal.invariant-loop-mark
invariant-loop-mark l = map halt_saying l.halts ≡ flat_map (halt_of l.events) (take l.mark-index l.mark-items)
