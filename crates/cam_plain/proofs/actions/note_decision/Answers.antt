use Rattle.std.proofs.lemmas.Result.{on_ok_weaker}
use Rattle.cam_plain.proofs.Changing.{decision_child}
use Rattle.cam_plain.proofs.actions.note_decision.Goals as goal

pub returns-in-Some : goal.returns-in-Some
returns-in-Some c =
    on_ok_weaker c.make_change-in-Some.result
    (λ second. λ L d is before. decision_child L c.args.outcome.now c.args.action.now c.in-Some.parent d c.args.actions.now c.make_change.new.actions c.make_change-in-Some.new.actions is c.in-Some.ensures.value
    c.in_ok-make_change.ensures second before)
    c.make_change-in-Some.ensures
