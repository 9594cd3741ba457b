use Rattle.std.proofs.Common.{◌∷◌, sym, subst}
use Rattle.std.proofs.lemmas.Result.{on_ok_weaker}
use Rattle.cam_event.specs.declared.Deed.{Deed}
use Rattle.cam_plain.specs.Marks.{KeepsMarks}
use Rattle.cam_plain.proofs.Marking.{other_marks}
use Rattle.cam_plain.proofs.marks.note_mark.Goals as goal

pub returns-in-Perform : goal.returns-in-Perform
returns-in-Perform c =
    on_ok_weaker c.note_performed.result
    (λ noted. λ L ledger before.
    subst (λ (d : Deed). KeepsMarks c.args.objects.now (d ∷ L) c.note_performed.new.table) (sym c.in-Perform.is) (noted L c.in-Perform.answer ledger before))
    c.note_performed.ensures

pub returns-in_default : goal.returns-in_default
returns-in_default c = λ L ledger before. other_marks c.args.objects.now L c.args.deed.now c.args.table.now c.in_default.not-Perform before
