use Rattle.std.proofs.Common.{◌≡◌}
use Rattle.cam_hall.specs.Ending.{HasNone}
use Rattle.cam_hall.proofs.letter.note_of.Given as goal

abbrev pub invariant-loop-at : goal.invariant-loop-at
invariant-loop-at g l =
    (l.seats.items ≡ l.fn.seats.items)
    × HasNone g.C.Core.sends g.C.Core.goes_to l.fn.seats.items l.node l.number l.place l.at
