use Rattle.std.proofs.Common.{ap, ◌∙◌}
use Rattle.cam_live.specs.Settled.{past_top_of}
use Rattle.cam_live.proofs.ledger.Ledger.settled.Goals as goal

pub returns : goal.returns
returns c = λ L keeps. c.in_ok-settled.ensures L keeps.tells ∙ ap (past_top_of c.args.objects.now L) (c.in_ok-live.ensures L keeps)
