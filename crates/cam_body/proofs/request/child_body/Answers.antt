use Rattle.std.proofs.Common.{Some, None, ap, sym, ◌∙◌}
use Rattle.std.specs.Option.{option_copied}
use Rattle.cam_body.proofs.Kept.{child}
use Rattle.cam_body.proofs.request.child_body.Goals as goal

pub returns-in-None : goal.returns-in-None
returns-in-None c =
    child c.args.body.now c.args.view.now 0 c.progress_of.result None (c.progress_of.ensures c.args.body.now) (ap option_copied (sym c.in-None.is) ∙ c.get.ensures)

pub returns-in-Some : goal.returns-in-Some
returns-in-Some c =
    c.body_of.ensures
    ∙ child c.args.body.now c.args.view.now 0 c.progress_of.result (Some c.in-Some.statement.now) (c.progress_of.ensures c.args.body.now) (ap option_copied (sym c.in-Some.is) ∙ c.get.ensures)
