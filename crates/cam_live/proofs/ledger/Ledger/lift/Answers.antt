use Rattle.std.proofs.Common.{ap, ◌∙◌}
use Rattle.cam_know.specs.Known.{lift_by}
use Rattle.cam_live.proofs.ledger.Ledger.lift.Goals as goal

pub returns : goal.returns
returns c = λ objects L keeps. c.lift.ensures ∙ ap (λ t. lift_by t c.args.action.now) (λ i u. keeps.tells.committed c.args.site u i)
