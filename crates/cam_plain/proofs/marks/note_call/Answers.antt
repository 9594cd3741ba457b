use Rattle.std.proofs.Common.{◌∙◌, refl, sym, ap}
use Rattle.std.proofs.lemmas.Result.{on_ok_weaker}
use Rattle.cam_event.specs.History.{Addressed}
use Rattle.cam_plain.proofs.Marking.{mark_put}
use Rattle.cam_plain.proofs.marks.note_call.Goals as goal

pub returns : goal.returns
returns c =
    on_ok_weaker c.add_mark.result
    (λ put. λ L n answer ledger called before.
    let asked = c.args.call.now in
    let call : Addressed = record { object = asked.object; op = asked.op; count = asked.count } in
    mark_put c.args.objects.now L c.args.action.now n answer call _ _ c.args.table.now c.add_mark.new.table called
    (λ i. record { site = c.site_of-site.ensures i; family = c.family-family.ensures i })
    (λ i. record { action = c.args.action.now; count = (c.count-count.ensures c.args.objects.now L ledger ∙ ap (Rattle.cam_event.specs.History.count L) c.site_of-site.ensures) i }) put before)
    c.add_mark.ensures
