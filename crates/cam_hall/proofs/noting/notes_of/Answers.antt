use Rattle.std.proofs.Common.{Bool, sym, ◌∙◌, ◌+◌, subst, take}
use Rattle.cam_journal.specs.Seats.{Sitting}
use Rattle.cam_hall.specs.Notes.{AreNotes, IsAdded, letters_of}
use Rattle.cam_hall.proofs.Noted.{notes_more}
use Rattle.cam_hall.proofs.noting.notes_of.Goals as goal

pub loop-place-preserved : goal.loop-place-preserved
loop-place-preserved g c =
    let core = g.C.Core in
    let journal = c.args.journal.now.id in
    let number = c.args.number in
    let place = c.loop-place.place in
    let letters = letters_of core.sends c.args.seat.now.history number in
    let kept = c.loop-place.invariant in
    let step = c.add_notes-left_out in
    let added =
    subst
    (λ (s : Sitting g.row.C-Event.Denot g.row.C-Letter.Denot).
    IsAdded core.goes_to core.copied journal number place
    (letters_of core.sends s.history number) step.result c.loop-place.notes
    step.new.notes)
    kept.0 step.ensures.notes in (
      step.ensures.same ∙ kept.0,
      subst
          (λ (short : Bool).
          AreNotes core.goes_to core.copied journal number (take (place + 1) letters) short
          step.new.notes)
          (sym c.either-short.ensures)
          (notes_more core.goes_to core.copied journal number place letters c.loop-place.short
          step.result c.loop-place.notes step.new.notes kept.1 added),
    )
