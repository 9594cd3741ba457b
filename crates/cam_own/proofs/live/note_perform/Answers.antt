use Rattle.std.proofs.Common.{◌≡◌, ℕ, false, Some, sym, ap, ◌∙◌}
use Rattle.std.specs.List.{list_any}
use Rattle.std.proofs.lemmas.Result.{on_ok_weaker}
use Rattle.cam_names.specs.Names.{ancestors}
use Rattle.cam_event.specs.History.{Addressed, call_of, informed}
use Rattle.cam_live.specs.Ledger.{addressed}
use Rattle.cam_own.proofs.Living.{lost_live, performed_live}
use Rattle.cam_own.proofs.live.note_perform.Goals as goal

pub returns-then-is_lost : goal.returns-then-is_lost
returns-then-is_lost c = λ L keeps live.
    let objects = c.args.objects.now in
    let a = c.args.action.now in
    let asked = c.in-Some.call in
    let call : Addressed = record { object = asked.object; op = asked.op; count = asked.count } in
    let called : call_of L a c.args.number ≡ Some call =
    sym (c.call.ensures objects L keeps) ∙ ap addressed c.in-Some.is in
    lost_live objects L a c.args.number c.args.answer call c.args.live.now called
    (ap (λ (s : ℕ). list_any (λ u. informed L s u false) (ancestors a)) (sym c.site_of.ensures)
    ∙ sym (c.is_lost.ensures objects L keeps) ∙ c.if-is_lost.true) live

pub returns : goal.returns
returns c =
    on_ok_weaker c.add.result
    (λ put. λ L keeps live.
    let objects = c.args.objects.now in
    let a = c.args.action.now in
    let asked = c.in-Some.call in
    let call : Addressed = record { object = asked.object; op = asked.op; count = asked.count } in
    let called : call_of L a c.args.number ≡ Some call =
    sym (c.call.ensures objects L keeps) ∙ ap addressed c.in-Some.is in
    performed_live objects L a c.args.number c.args.answer call c.args.live.now c.add.new.live called
    (ap (λ (s : ℕ). list_any (λ u. informed L s u false) (ancestors a)) (sym c.site_of.ensures)
    ∙ sym (c.is_lost.ensures objects L keeps) ∙ c.if-is_lost.false) put live)
    c.add.ensures
