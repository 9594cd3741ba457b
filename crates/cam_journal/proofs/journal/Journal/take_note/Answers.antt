use Rattle.std.proofs.Common.{sym, ap, ◌∙◌, subst, arith}
use Rattle.cam_journal.specs.declared.view.SeatView.{SeatView}
use Rattle.cam_journal.specs.Rule.{with_letter}
use Rattle.cam_journal.specs.Seats.{IsSeat, sent_as}
use Rattle.cam_journal.proofs.Joining.{takes}
use Rattle.cam_journal.proofs.Letters.{IsSeat-letter}
use Rattle.cam_journal.proofs.journal.Journal.take_note.Goals as goal

pub join_seat-requires : goal.join_seat-requires
join_seat-requires g c =
    let core = g.C.Core in
    let one = c.self.invariant.0 in
    let seat = c.seat.inside in
    let note = c.note.inside in
    let journal = sym (ap (λ j. j.id) c.self.view_is) in (
      ap (λ s. s.journal) c.seat.view_is ∙ c.requires.seat ∙ journal,
      ap (λ n. n.journal) c.note.view_is ∙ c.requires.note ∙ journal,
      ap (λ me. me.1) c.note.invariant.0,
      omega arith,
      takes core.names core.sends core.lawful c.self.inside.table.shared.key seat.token.id note.token.id seat.token.me.0 note.token.me.0 (sent_as note.number note.place note.letter.value) seat.entries.items (ap (λ me. me.0) c.note.invariant.0) c.seat.invariant.1,
    )

pub invariant_of-seat : goal.invariant_of-seat
invariant_of-seat g c =
    let core = g.C.Core in
    let seat = c.seat.inside in
    let note = c.note.inside in
    let after = ap (λ me. me.0) c.join_seat.ensures.2 ∙ ap (with_letter seat.token.me.0) (ap (λ me. me.0) c.note.invariant.0) in (
      ap (λ me. me.1) c.join_seat.ensures.2 ∙ c.seat.invariant.0,
      subst (λ (v : SeatView g.row.C-Event.Denot g.row.C-Letter.Denot). IsSeat core.lawful seat.entries.items v) (sym after) (IsSeat-letter core.sends core.lawful seat.entries.items seat.token.me.0 (sent_as note.number note.place note.letter.value) c.seat.invariant.1),
    )
