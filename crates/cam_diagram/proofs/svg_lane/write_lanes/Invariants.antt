use Rattle.std.proofs.Common.{◌≡◌, ◌++◌, drop}
use Rattle.cam_diagram.specs.Lanes.{lanes_text}
use Rattle.cam_diagram.proofs.svg_lane.write_lanes.Given as goal

abbrev pub invariant-loop-left : goal.invariant-loop-left
invariant-loop-left l =
    l.xml ++ lanes_text l.bottom l.left (drop l.left l.heads) ≡ l.fn.xml ++ lanes_text l.bottom 0 l.heads
