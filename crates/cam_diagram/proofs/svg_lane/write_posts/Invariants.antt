use Rattle.std.proofs.Common.{◌≡◌, ◌++◌, drop}
use Rattle.cam_diagram.specs.Lanes.{posts_from}
use Rattle.cam_diagram.proofs.svg_lane.write_posts.Given as goal

abbrev pub invariant-loop-left : goal.invariant-loop-left
invariant-loop-left l =
    l.xml ++ posts_from l.left (drop l.left l.heads) ≡ l.fn.xml ++ posts_from 0 l.heads
