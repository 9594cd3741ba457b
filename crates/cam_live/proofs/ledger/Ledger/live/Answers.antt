use Rattle.std.proofs.Common.{ap, ◌∙◌}
use Rattle.cam_live.specs.Counted.{live_of}
use Rattle.cam_live.proofs.Counting.{live_is}
use Rattle.cam_live.proofs.ledger.Ledger.live.Goals as goal

pub returns : goal.returns
returns c = λ L keeps. c.in_ok-live.ensures L keeps.tells ∙ ap (live_of c.args.objects.now L) keeps.performed ∙ live_is c.args.objects.now L
