use Rattle.std.proofs.Common.{◌≡◌, ◌++◌, take}
use Rattle.std.specs.List.{flat_map}
use Rattle.cam_diagram.specs.Lanes.{halt_lane}
use Rattle.cam_diagram.proofs.svg_lane.write_halt_lanes.Given as goal

abbrev pub invariant-loop-halt : goal.invariant-loop-halt
invariant-loop-halt l = l.xml ≡ l.fn.xml ++ flat_map halt_lane (take l.halt-index l.halt-items)
