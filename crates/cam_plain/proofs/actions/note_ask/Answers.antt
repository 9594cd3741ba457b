use Rattle.std.proofs.lemmas.Result.{on_ok_weaker}
use Rattle.cam_plain.proofs.Changing.{ask_both}
use Rattle.cam_plain.proofs.actions.note_ask.Goals as goal

pub returns : goal.returns
returns c =
    on_ok_weaker c.make_change-2.result
    (λ second. λ L before. ask_both L c.args.parent.now c.args.child.now c.args.actions.now c.make_change.new.actions c.make_change-2.new.actions c.in_ok-make_change.ensures second before)
    c.make_change-2.ensures
