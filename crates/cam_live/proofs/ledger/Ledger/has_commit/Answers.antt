use Rattle.std.proofs.Common.{◌∙◌}
use Rattle.cam_live.proofs.ledger.Ledger.has_commit.Goals as goal

pub returns : goal.returns
returns c = λ objects L keeps. c.contains.ensures ∙ keeps.tells.committed c.args.site c.args.name.now
