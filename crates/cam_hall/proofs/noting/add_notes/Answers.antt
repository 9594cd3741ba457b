use Rattle.std.proofs.Common.{◌≡◌, sym, ap, ◌∙◌, subst, arith}
use Rattle.std.specs.Prelude.{Option, IsSome}
use Rattle.cam_hall.specs.Notes.{letters_of}
use Rattle.cam_hall.proofs.Noted.{some_within, letter_at_place, added, added_none, added_nothing}
use Rattle.cam_hall.proofs.noting.add_notes.Goals as goal

pub note-requires-clause-sent : goal.note-requires-clause-sent
note-requires-clause-sent g c =
    let sends = g.C.Core.sends in
    let history = c.args.seat.now.history in
    let number = c.args.number in
    let place = c.args.place in
    subst (λ (o : Option g.row.C-Letter.Denot). IsSome o)
    (sym (letter_at_place sends history number place))
    (some_within (letters_of sends history number) place c.requires.letter)

pub returns-in_default-clause-notes : goal.returns-in_default-clause-notes
returns-in_default-clause-notes g c =
    let core = g.C.Core in
    added_none core.goes_to core.copied c.args.journal.now.id c.args.number c.args.place
    (letters_of core.sends c.args.seat.now.history c.args.number) c.args.notes.now
    c.requires.letter

pub returns-in-0-clause-notes : goal.returns-in-0-clause-notes
returns-in-0-clause-notes g c =
    let core = g.C.Core in
    let history = c.args.seat.now.history in
    let number = c.args.number in
    let place = c.args.place in
    let note = c.in-Ok.note in
    added_nothing core.goes_to core.copied c.args.journal.now.id number place c.copies.result
    (letters_of core.sends history number) c.args.notes.now note.sent.letter
    (sym (letter_at_place core.sends history number place) ∙ c.in-Ok.ensures.letter)
    (c.copies.ensures.count ∙ ap core.copied c.letter-2.ensures) c.in-0.is

pub returns-in-1-clause-notes : goal.returns-in-1-clause-notes
returns-in-1-clause-notes g c =
    let core = g.C.Core in
    let history = c.args.seat.now.history in
    let number = c.args.number in
    let place = c.args.place in
    let note = c.in-Ok.note in
    added core.goes_to core.copied c.args.journal.now.id number place 1
    (letters_of core.sends history number) c.push_note.result c.args.notes.now
    c.push_note.new.notes note c.to-to.result c.in-Ok.ensures.journal c.in-Ok.ensures.name.0
    c.in-Ok.ensures.name.1
    (sym (letter_at_place core.sends history number place) ∙ c.in-Ok.ensures.letter)
    (c.to-to.ensures ∙ ap core.goes_to c.letter.ensures)
    (sym c.in-1.is ∙ c.copies.ensures.count ∙ ap core.copied c.letter-2.ensures)
    c.push_note.ensures

pub returns-in_default-copies-clause-notes : goal.returns-in_default-copies-clause-notes
returns-in_default-copies-clause-notes g c =
    let core = g.C.Core in
    let history = c.args.seat.now.history in
    let number = c.args.number in
    let place = c.args.place in
    let note = c.in-Ok.note in
    let few = c.copies.ensures.few in
    let rest = c.in_default-copies in
    let two : 2 ≡ c.copies.result = omega (arith, few) in
    added core.goes_to core.copied c.args.journal.now.id number place 2
    (letters_of core.sends history number) c.push_twice.result c.args.notes.now
    c.push_twice.new.notes note c.to-to.result c.in-Ok.ensures.journal c.in-Ok.ensures.name.0
    c.in-Ok.ensures.name.1
    (sym (letter_at_place core.sends history number place) ∙ c.in-Ok.ensures.letter)
    (c.to-to.ensures ∙ ap core.goes_to c.letter.ensures)
    (two ∙ c.copies.ensures.count ∙ ap core.copied c.letter-2.ensures)
    c.push_twice.ensures
