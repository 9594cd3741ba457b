use Rattle.std.proofs.Common.{◌≡◌, drop}
use Rattle.cam_explain.specs.Standings.{has_ended}
use Rattle.cam_explain.proofs.standing.has_ended.Given as goal

abbrev pub invariant-loop-moment : goal.invariant-loop-moment
invariant-loop-moment l =
    has_ended (drop l.moment-index l.moments) l.child ≡ has_ended l.moments l.child
