use Rattle.std.proofs.Common.{◌∙◌}
use Rattle.cam_live.proofs.ledger.Ledger.count.Goals as goal

pub returns : goal.returns
returns c = λ objects L keeps. c.count_of.ensures ∙ keeps.tells.counts c.args.site
