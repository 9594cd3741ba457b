use Rattle.std.proofs.Common.{◌≡◌, drop}
use Rattle.cam_explain.specs.Standings.{open_child, open_from}
use Rattle.cam_explain.proofs.standing.open_child.Given as goal

abbrev pub invariant-loop-moment : goal.invariant-loop-moment
invariant-loop-moment l =
    open_from l.moments (drop l.moment-index l.moments) ≡ open_child l.moments
