use Rattle.std.proofs.Common.{◌≡◌, rules, sym, ◌∙◌}
use Rattle.cam_type.specs.Table.{answer_eq}
use Rattle.cam_event.specs.History.{Addressed}
use Rattle.cam_plain.specs.Legal.{history}
use Rattle.cam_plain.specs.Tests.{is_performed}
use Rattle.cam_plain.proofs.Granting.{perform_done, attempted_done}
use Rattle.cam_plain.proofs.arrivals.may_perform.Goals as goal

pub returns-in-Done-clause-value : goal.returns-in-Done-clause-value
returns-in-Done-clause-value c =
    let objects = c.args.before.now.objects.now in
    let L = history c.args.before.now.deeds.now in
    let asked = c.in-Some.call in
    let call : Addressed = record { object = asked.object; op = asked.op; count = asked.count } in
    let same : c.eq.result ≡ answer_eq c.args.answer.now c.in-Done.given = search rules in
    same
    ∙ perform_done objects L c.args.action.now c.args.answer.now c.in-Done.given call (sym c.in-Done.is ∙ c.in_ok-given-in-Some.ensures.value)
    ∙ sym (c.in-Some.ensures.test (is_performed objects L c.args.action.now c.args.answer.now))

pub returns-in-Done-clause-done : goal.returns-in-Done-clause-done
returns-in-Done-clause-done c = λ passed.
    let objects = c.args.before.now.objects.now in
    let L = history c.args.before.now.deeds.now in
    attempted_done objects L c.args.action.now c.args.number c.args.answer.now c.in-Done.given _ _ c.attempt.new.sites
    (sym c.in-Done.is ∙ c.in_ok-given-in-Some.ensures.value) (c.in_ok-given-in-Some.ensures.kept c.args.number c.args.answer.now c.in-Some.ensures.called)
