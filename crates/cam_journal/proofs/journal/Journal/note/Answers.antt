use Rattle.std.proofs.Common.{◌≡◌, List, [], sym, ap, ◌∙◌, subst}
use Rattle.std.specs.Prelude.{IsSome, Some}
use Rattle.cam_journal.specs.declared.entry.SentLetter.{SentLetter}
use Rattle.cam_journal.specs.declared.view.SeatView.TheVariants.{Posted}
use Rattle.cam_journal.specs.Taking.{IsFromLawful}
use Rattle.cam_journal.specs.declared.entry.NumberedEvent.{NumberedEvent}
use Rattle.cam_journal.specs.Seats.{letter_at, sent_as}
use Rattle.cam_journal.proofs.Letters.{seat_rises, sender_kept, letter_of, place_within, has_sent}
use Rattle.cam_journal.proofs.journal.Journal.note.Goals as goal

pub event_of-requires : goal.event_of-requires
event_of-requires g c = seat_rises g.C.Core.sends g.C.Core.lawful c.seat.inside.entries.items c.seat.inside.token.me.0 c.seat.invariant.1

pub unreachable-requires : goal.unreachable-requires
unreachable-requires g c =
    let core = g.C.Core in
    let Is : List (NumberedEvent g.row.C-Event.Denot g.row.C-Letter.Denot) → Type 0 = λ h. IsSome (letter_at core.sends h c.args.number c.args.place) in
    sender_kept core.sends core.lawful c.seat.inside.entries.items c.seat.inside.token.me.0 c.args.number c.args.place c.seat.invariant.1 (subst Is (sym (ap (λ s. s.history) c.seat.view_is)) c.requires.sent) c.in_default.ensures

pub letter-requires : goal.letter-requires
letter-requires g c =
    let core = g.C.Core in
    let Is : List (NumberedEvent g.row.C-Event.Denot g.row.C-Letter.Denot) → Type 0 = λ h. IsSome (letter_at core.sends h c.args.number c.args.place) in
    place_within core.sends core.lawful c.seat.inside.entries.items c.seat.inside.token.me.0 c.args.number c.args.place c.in-Some.ensures.0 c.in-Some.event.now c.seat.invariant.1 c.in-Some.ensures.1 (subst Is (sym (ap (λ s. s.history) c.seat.view_is)) c.requires.sent)

pub note_as-token-requires-clause-sent : goal.note_as-token-requires-clause-sent
note_as-token-requires-clause-sent g c =
    let core = g.C.Core in
    (has_sent core.sends core.lawful c.seat.inside.entries.items c.seat.inside.token.me.0 _ c.in-Some.ensures.0 c.in-Some.event.now c.seat.invariant.1 c.in-Some.ensures.1 c.in_ok-letter.ensures).0

pub invariant_of-result : goal.invariant_of-result
invariant_of-result g c =
    let core = g.C.Core in
    let L : Type 0 = g.row.C-Letter.Denot in
    let E : Type 0 = g.row.C-Event.Denot in
    let Is : L → Type 0 =
    λ l. (c.note_as-token.result.me ≡ (Posted (sent_as c.args.number c.args.place l), []))
    × IsFromLawful core.sends core.lawful (sent_as c.args.number c.args.place l) in
    let sent : SentLetter L = sent_as c.args.number c.args.place c.in_ok-letter.letter in
    subst Is (sym c.in_ok-letter-2.ensures.ok) (
      c.note_as-token.ensures.note,
      (has_sent core.sends core.lawful c.seat.inside.entries.items c.seat.inside.token.me.0 sent
          c.in-Some.ensures.0 c.in-Some.event.now c.seat.invariant.1 c.in-Some.ensures.1
          c.in_ok-letter.ensures).1,
    )

pub returns-clause-letter : goal.returns-clause-letter
returns-clause-letter g c =
    let core = g.C.Core in
    ap (λ h. letter_at core.sends h c.args.number c.args.place)
    (sym (ap (λ s. s.history) c.seat.view_is))
    ∙ letter_of core.sends core.lawful c.seat.inside.entries.items c.seat.inside.token.me.0
    c.args.number c.args.place c.in-Some.ensures.0 c.in-Some.event.now c.seat.invariant.1
    c.in-Some.ensures.1
    ∙ c.in_ok-letter.ensures
    ∙ ap (λ l. Some l) (sym c.in_ok-letter-2.ensures.ok)
