use Rattle.std.proofs.Common.{is_some, sym, ap, ◌∙◌}
use Rattle.cam_event.specs.History.{secured_at}
use Rattle.cam_live.proofs.Counting.{secured_first}
use Rattle.cam_own.proofs.own.Own.is_secured.Goals as goal

pub returns : goal.returns
returns c = λ objects s L E kept.
    c.is_some.ensures ∙ ap is_some (c.first_secured.ensures objects L kept.ledger) ∙ sym (secured_first L c.args.self.now.node c.args.family.now)
    ∙ ap (secured_at L c.args.family.now) kept.node
