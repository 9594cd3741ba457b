use Rattle.std.proofs.Common.{◌≤◌, ◌∷◌, ◌++◌, [], length, refl, sym, ap, ◌∙◌, arith}
use Rattle.cam_names.specs.declared.name.Name.{Name}
use Rattle.cam_locks.specs.declared.Grant.TheVariants.{Done, Conflict}
use Rattle.cam_event.specs.History.{Addressed}
use Rattle.cam_plain.proofs.Granting.{grant_kept, done_kept, conflict_kept}
use Rattle.cam_plain.proofs.site.Site.attempt.Goals as goal

pub returns-in_ok-drop_aborted-in-Done-clause-value : goal.returns-in_ok-drop_aborted-in-Done-clause-value
returns-in_ok-drop_aborted-in-Done-clause-value c = λ objects L keeps at.
    grant_kept objects L c.args.site c.args.self.now c.args.action.now c.args.call.now.object c.args.call.now.op (Done c.in-Done.answer) (sym c.in-Done.is ∙ c.in_ok-answer.ensures.value) keeps at

pub returns-in_ok-drop_aborted-in-Done-clause-kept : goal.returns-in_ok-drop_aborted-in-Done-clause-kept
returns-in_ok-drop_aborted-in-Done-clause-kept c = λ objects L n answer ledger keeps at called.
    let named : 1 ≤ length c.args.action.now = omega (arith, c.depth.ensures.from, c.depth.ensures.value) in
    let asked = c.args.call.now in
    let call : Addressed = record { object = asked.object; op = asked.op; count = asked.count } in
    done_kept objects L c.args.site c.args.action.now n answer c.in-Done.answer call c.args.self.now _ c.grant.new.locks.site named
    (sym c.in-Done.is ∙ c.in_ok-answer.ensures.value) c.in_ok-answer.ensures.site (c.in_ok-drop_aborted-in-Done.ensures objects L ledger)
    (c.in_ok-push_copy-in-Done.ensures.ok ∙ ap (λ (f : Name). c.args.self.now.families ++ f ∷ []) c.family.ensures) keeps at called

pub returns-in-Conflict-clause-value : goal.returns-in-Conflict-clause-value
returns-in-Conflict-clause-value c = λ objects L keeps at.
    grant_kept objects L c.args.site c.args.self.now c.args.action.now c.args.call.now.object c.args.call.now.op (Conflict c.in-Conflict.holder) (sym c.in-Conflict.is ∙ c.in_ok-answer.ensures.value) keeps at

pub returns-in-Conflict-clause-kept : goal.returns-in-Conflict-clause-kept
returns-in-Conflict-clause-kept c = λ objects L n answer ledger keeps at called.
    let asked = c.args.call.now in
    let call : Addressed = record { object = asked.object; op = asked.op; count = asked.count } in
    conflict_kept objects L c.args.site c.args.action.now n answer c.in-Conflict.holder call c.args.self.now _
    (sym c.in-Conflict.is ∙ c.in_ok-answer.ensures.value) c.in_ok-answer.ensures.site refl keeps at
