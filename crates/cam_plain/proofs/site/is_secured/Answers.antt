use Rattle.std.proofs.Common.{◌≡◌, is_some, rules, sym, ap, ◌∙◌}
use Rattle.cam_live.proofs.Counting.{secured_first}
use Rattle.cam_plain.proofs.site.is_secured.Goals as goal

pub returns : goal.returns
returns c = λ objects L keeps.
    let found : c.is_some.result ≡ is_some c.first_secured.result = search rules in
    found ∙ ap is_some (c.first_secured.ensures objects L keeps) ∙ sym (secured_first L c.args.site c.args.family.now)
