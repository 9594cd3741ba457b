use Rattle.std.proofs.Common.{◌≡◌, is_some, false, rules, sym, ap, ◌∙◌}
use Rattle.std.specs.Prelude.{find}
use Rattle.cam_names.specs.Names.{ancestors}
use Rattle.cam_event.specs.History.{informed}
use Rattle.cam_plain.proofs.Marking.{found_some}
use Rattle.cam_plain.proofs.site.has_lost.Goals as goal

pub returns : goal.returns
returns c = λ objects L keeps.
    let found : c.is_some.result ≡ is_some c.aborted_ancestor.result = search rules in
    found ∙ ap is_some (c.aborted_ancestor.ensures objects L keeps)
    ∙ sym (found_some (λ u. informed L c.args.site u false) (ancestors c.args.action.now))
