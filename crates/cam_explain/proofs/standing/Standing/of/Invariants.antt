use Rattle.std.proofs.Common.{◌≡◌, drop}
use Rattle.cam_explain.specs.Standings.{standing, standing_from}
use Rattle.cam_explain.proofs.standing.Standing.of.Given as goal

abbrev pub invariant-loop-moment : goal.invariant-loop-moment
invariant-loop-moment l =
    standing_from l.standing (drop l.moment-index l.moments) ≡ standing l.moments
