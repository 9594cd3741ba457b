use Rattle.std.proofs.Common.{ℕ, rules, sym, subst}
use Rattle.std.specs.Prelude.{Ok}
use Rattle.atomic_table.specs.Seated.{TableId}
use Rattle.cam_journal.specs.Seats.{Sitting}
use Rattle.cam_hall.specs.declared.advance.Advance.{Advance}
use Rattle.cam_hall.specs.Advances.{HistoryThen, IsStepped}
use Rattle.cam_hall.specs.Notes.{AreNotes, letters_of}
use Rattle.cam_hall.specs.Turns.{IsDone, Standing}
use Rattle.cam_hall.proofs.Turning.{letters_count, turned}
use Rattle.cam_hall.proofs.slot.Slot.turn.Goals as goal

pub notes_of-notes-requires-clause-letters : goal.notes_of-notes-requires-clause-letters
notes_of-notes-requires-clause-letters g c =
    let core = g.C.Core in
    let old = c.self.inside.seat in
    let new = c.step_and_record.new.seat in
    let item = c.args.item in
    let step =
    subst
    (λ (a : Advance).
    HistoryThen core.names core.sends core.lawful core.answers old.node old.history
    new.history item (Ok a))
    c.in-Made.is c.in_ok-number.ensures.advance.history in
    letters_count core.names core.sends core.lawful core.answers old.node old.history new.history
    item c.in-Made.number c.in-Made.letters step

pub returns-in-Made : goal.returns-in-Made
returns-in-Made g c =
    let core = g.C.Core in
    let E : Type 0 = g.row.C-Event.Denot in
    let L : Type 0 = g.row.C-Letter.Denot in
    let old = c.self.inside.seat in
    let new = c.step_and_record.new.seat in
    let item = c.args.item in
    let number = c.in-Made.number in
    let notes = c.notes_of-notes.result.0 in
    let short = c.notes_of-notes.result.1 in
    let journal = g.J.Names.journal in
    let node = g.row.NODE in
    let step =
    subst
    (λ (a : Advance).
    HistoryThen core.names core.sends core.lawful core.answers old.node old.history
    new.history item (Ok a))
    c.in-Made.is c.in_ok-number.ensures.advance.history in
    let here =
    subst
    (λ (n : ℕ).
    IsStepped core.names core.sends core.lawful core.answers n old.history new.history
    item number c.in-Made.letters)
    c.self.invariant.number step in
    let noted =
    subst
    (λ (j : TableId).
    AreNotes core.goes_to core.copied j number
    (letters_of core.sends new.history number) short notes)
    c.requires.own c.notes_of-notes.ensures.notes in
    let done =
    turned core.names core.sends core.lawful core.answers core.goes_to core.copied journal
    node old.history new.history item number c.in-Made.letters short notes here noted in
    let after =
    subst
    (λ (s : Sitting E L).
    IsDone core.names core.sends core.goes_to core.copied core.lawful core.answers journal
    node old.history s.history item number notes short)
    (sym c.notes_of-notes.ensures.same) done in
    record {
      history =
          subst
          (λ (s : Standing g.row.C.Denot E L).
          IsDone core.names core.sends core.goes_to core.copied core.lawful core.answers journal
          node s.seat.history c.notes_of-notes.new.seat.history item number notes short)
          c.self.view_is after;
      ends = search rules;
    }
