use Rattle.std.proofs.Common.{sym, ap, ◌+◌, ◌∙◌}
use Rattle.cam_own.proofs.Topping.{top_put}
use Rattle.cam_own.proofs.tops.note_top_action.Goals as goal

pub returns : goal.returns
returns c = λ L before.
    top_put L c.args.action.now c.home-home.result.0 c.home-home.result.1 c.in_ok-number.number c.args.tops.now c.insert.new.self c.requires
    (sym (ap (λ p. p.0) c.home-home.ensures)) (sym (ap (λ p. p.1) c.home-home.ensures)) before
    (c.in_ok-number.ensures ∙ ap (λ n. n + 1) c.tops_in.ensures) c.in_ok-insert.ensures.updates.0
