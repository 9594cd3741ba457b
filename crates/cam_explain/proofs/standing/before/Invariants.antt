use Rattle.std.proofs.Common.{◌≡◌, ◌++◌, take, drop}
use Rattle.cam_explain.specs.Standings.{before}
use Rattle.cam_explain.proofs.standing.before.Given as goal

abbrev pub invariant-loop-place : goal.invariant-loop-place
invariant-loop-place l =
    take l.place l.moments ++ before l.line (drop l.place l.moments) ≡ before l.line l.moments
