use Rattle.std.proofs.Common.{◌≢◌, Some, take}
use Rattle.std.specs.Prelude.{All}
use Rattle.cam_journal.specs.Gathered.{front_of}
use Rattle.cam_journal.proofs.gathered.first_at.Given as goal

abbrev pub invariant-loop-at : goal.invariant-loop-at
invariant-loop-at g l = All (λ list. front_of list.items ≢ Some l.number) (take l.at l.lists)
