use Rattle.std.proofs.Common.{◌≡◌, ◌∙◌, List, ap, sym}
use Rattle.std.specs.Prelude.{Some, slice_get}
use Rattle.std.proofs.lemmas.Option.{slice_get-get_or}
use Rattle.cam_journal.specs.declared.entry.NumberedEvent.{NumberedEvent}
use Rattle.cam_journal.specs.Seats.{letter_at}
use Rattle.cam_journal.proofs.Letters.{letter_of}
use Rattle.cam_journal.proofs.seat.NodeSeat.get.Goals as goal

pub returns-clause-letters : goal.returns-clause-letters
returns-clause-letters g c =
    let core = g.C.Core in
    let entries = c.self.inside.entries.items in
    let entry = c.in_ok-number.field-0.now in
    let history = ap (λ s. s.history) c.self.view_is in
    let found = c.in_ok-number.ensures.item.3 in
    let there : slice_get entries c.args.at ≡ Some entry =
    slice_get-get_or entries c.args.at entry found.0 ∙ ap Some (sym (found.1 entry)) in
    λ place.
    ap
    (λ (h : List (NumberedEvent g.row.C-Event.Denot g.row.C-Letter.Denot)).
    letter_at core.sends h entry.0 place)
    (sym history)
    ∙ letter_of core.sends core.lawful entries c.self.inside.token.me.0 entry.0 place
    c.args.at entry.1 c.self.invariant.1 there
