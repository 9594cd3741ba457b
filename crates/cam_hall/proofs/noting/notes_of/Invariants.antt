use Rattle.std.proofs.Common.{◌≡◌, take}
use Rattle.cam_hall.specs.Notes.{AreNotes, letters_of}
use Rattle.cam_hall.proofs.noting.notes_of.Given as goal

abbrev pub invariant-loop-place : goal.invariant-loop-place
invariant-loop-place g l =
    (l.seat ≡ l.fn.seat)
    × AreNotes g.C.Core.goes_to g.C.Core.copied l.journal.id l.number
    (take l.place (letters_of g.C.Core.sends l.fn.seat.history l.number)) l.short l.notes
