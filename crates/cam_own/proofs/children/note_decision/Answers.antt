use Rattle.std.proofs.lemmas.Result.{on_ok_weaker}
use Rattle.cam_own.proofs.Putting.{decided}
use Rattle.cam_own.proofs.children.note_decision.Goals as goal

pub returns-in-Some : goal.returns-in-Some
returns-in-Some c =
    on_ok_weaker c.note_decided.result
    (λ put. decided c.args.action.now c.in-Some.parent c.args.children.now c.note_decided.new.children c.in-Some.ensures.value put)
    c.note_decided.ensures
