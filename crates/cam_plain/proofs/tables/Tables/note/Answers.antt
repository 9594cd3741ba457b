use Rattle.std.proofs.lemmas.Result.{on_ok_weaker}
use Rattle.cam_plain.proofs.tables.Tables.note.Goals as goal

pub returns : goal.returns
returns c =
    on_ok_weaker c.note-2.result
    (λ replied. λ L kept. record {
      ledger = c.in_ok-note.ensures.noted L kept.ledger;
      marks = c.in_ok-note_mark.ensures L kept.ledger kept.marks;
      actions = c.in_ok-note_action.ensures L kept.actions;
      tops = c.in_ok-note_top.ensures L kept.tops;
      replies = replied L kept.replies;
      dependencies = c.in_ok-take_deed.ensures L kept.ledger kept.dependencies;
    })
    c.note-2.ensures
