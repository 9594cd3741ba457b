use Rattle.std.proofs.Common.{◌≡◌, ◌++◌, take, drop}
use Rattle.cam_scope.specs.Source.{before_blank}
use Rattle.cam_scope.proofs.source.word.Given as goal

abbrev pub invariant-loop-at : goal.invariant-loop-at
invariant-loop-at l = take l.at l.rest ++ before_blank (drop l.at l.rest) ≡ before_blank l.rest
