use Rattle.std.proofs.Common.{sym}
use Rattle.std.proofs.lemmas.Result.{on_ok_weaker}
use Rattle.cam_plain.proofs.Marking.{none_put}
use Rattle.cam_plain.proofs.marks.note_performed.Goals as goal

pub returns-in-Some : goal.returns-in-Some
returns-in-Some c =
    on_ok_weaker c.note_call.result (λ noted. λ L answer ledger before. noted L c.args.number answer ledger (sym (c.in-Some.ensures c.args.objects.now L ledger)) before) c.note_call.ensures

pub returns-in-None : goal.returns-in-None
returns-in-None c = λ L answer ledger before.
    none_put c.args.objects.now L c.args.action.now c.args.number answer c.args.table.now (sym (c.in-None.ensures c.args.objects.now L ledger)) before
