use Rattle.std.proofs.Common.{◌∙◌}
use Rattle.cam_live.proofs.ledger.Ledger.has_abort.Goals as goal

pub returns : goal.returns
returns c = λ objects L keeps. c.contains.ensures ∙ keeps.tells.aborted c.args.site c.args.name.now
