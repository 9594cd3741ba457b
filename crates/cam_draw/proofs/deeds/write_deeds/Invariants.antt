use Rattle.std.proofs.Common.{◌≡◌, ◌++◌, take, string_bytes}
use Rattle.std.specs.List.{flat_map}
use Rattle.cam_draw.specs.Deeds.{deed_line}
use Rattle.cam_draw.proofs.deeds.write_deeds.Given as goal

abbrev pub invariant-loop-deed : goal.invariant-loop-deed
invariant-loop-deed l =
    string_bytes l.out ≡ string_bytes l.fn.out ++ flat_map (deed_line l.scope.names l.labels) (take l.deed-index l.deed-items)
