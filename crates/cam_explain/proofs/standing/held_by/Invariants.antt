use Rattle.std.proofs.Common.{◌≡◌, drop}
use Rattle.cam_explain.specs.Moments.{told_in}
use Rattle.cam_explain.specs.Standings.{held, held_from}
use Rattle.cam_explain.proofs.standing.held_by.Given as goal

abbrev pub invariant-loop-moment : goal.invariant-loop-moment
invariant-loop-moment l =
    held_from l.objects (told_in l.course).restart l.held.items l.last (drop l.moment-index l.moments)
    ≡ held l.objects (told_in l.course).restart l.moments
