use Rattle.std.proofs.Common.{List, ℕ, refl, sym, ap, ◌∙◌, ◌<◌, subst}
use Rattle.std.specs.Prelude.{All}
use Rattle.cam_journal.specs.declared.entry.NumberedEvent.{NumberedEvent}
use Rattle.cam_journal.specs.declared.view.SeatView.{SeatView}
use Rattle.cam_journal.specs.Seats.{IsSeat}
use Rattle.cam_journal.proofs.Seating.{can_record, IsSeat-record, below_in, sitting-record, spare_less, room_left}
use Rattle.cam_journal.proofs.journal.Journal.record.Goals as goal
use Rattle.cam_journal.proofs.journal.Journal.record.Goals.{In-Ok}

pub record_as-number-requires : goal.record_as-number-requires
record_as-number-requires g c =
    let core = g.C.Core in
    let seat = c.seat.inside in record {
      told = refl;
      table = (ap (λ s. s.journal) c.seat.view_is ∙ c.requires.own ∙ sym (ap (λ j. j.id) c.self.view_is), c.self.invariant.0);
      next = can_record core.names core.lawful seat.token.me.0 seat.token.table_id _ _ seat.entries.items c.args.seat.now c.args.event c.seat.view_is seat.entries.ok.0 c.seat.invariant.1 c.requires.room c.requires.next;
    }

pub invariant_of-seat : goal.invariant_of-seat
invariant_of-seat g c =
    let core = g.C.Core in
    let seat = c.seat.inside in
    let step = c.record_as-number.ensures in
    let own = can_record core.names core.lawful seat.token.me.0 seat.token.table_id _ _ seat.entries.items c.args.seat.now c.args.event c.seat.view_is seat.entries.ok.0 c.seat.invariant.1 c.requires.room c.requires.next in
    let kept = IsSeat-record core.names core.lawful seat.token.me.0 seat.entries.items c.args.event c.record_as-number.result c.seat.invariant.1 own step.above in
    let P : List (ℕ × g.row.C-Event.Denot) × SeatView g.row.C-Event.Denot g.row.C-Letter.Denot → Type 0 = λ p. IsSeat core.lawful p.0 p.1 in (
      ap (λ me. me.1) step.me ∙ c.seat.invariant.0,
      subst P (λ i. (sym c.in-Ok.ensures.items i, sym (ap (λ me. me.0) step.me) i)) kept,
    )

pub returns-clause-seat : goal.returns-clause-seat
returns-clause-seat g c =
    let core = g.C.Core in
    let seat = c.seat.inside in
    let step = c.record_as-number.ensures in
    let spare = ap (λ s. s.spare) c.seat.view_is in
    let room = room_left _ _ _ spare c.requires.room in
    let left = spare_less _ _ _ _ _ spare (c.push_back.ensures.in_place room) c.in-Ok.ensures.len in
    sitting-record core.names core.lawful seat.token.me.0 c.record_as-number.new.token.me.0 _ _ _ _ seat.entries.items c.args.seat.now c.args.event c.record_as-number.result c.seat.view_is c.seat.invariant.1 (ap (λ me. me.0) step.me) step.table left

pub returns-clause-above : goal.returns-clause-above
returns-clause-above g c =
    let number = c.record_as-number.result in
    let Below : List (NumberedEvent g.row.C-Event.Denot g.row.C-Letter.Denot) → Type 0 = λ h. All (λ e. e.number < number) h in
    subst Below (ap (λ s. s.history) c.seat.view_is) (below_in c.seat.inside.token.me.0 number c.record_as-number.ensures.above)
