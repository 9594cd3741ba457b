use Rattle.std.proofs.Common.{◌≡◌, ◌&&◌, true, sym, ap, ◌∙◌, rules}
use Rattle.cam_names.specs.Names.{is_top}
use Rattle.cam_event.specs.History.{committed}
use Rattle.cam_report.proofs.States.{has_committed}
use Rattle.cam_report.proofs.summary.is_committed_top.Goals as goal

pub returns-then-depth-eq1 : goal.returns-then-depth-eq1
returns-then-depth-eq1 c = λ L g.
    let top : is_top c.args.action.now ≡ true = search rules in
    let ended : c.contains.result ≡ committed L c.args.action.now = c.contains.ensures ∙ has_committed L c.args.committed.now g c.args.action.now in
    ended ∙ ap (λ b. b && committed L c.args.action.now) (sym top)
