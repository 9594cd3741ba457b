use Rattle.cam_gen.proofs.AllAccepted.{each_is_accepted}
use Rattle.cam_gen.proofs.scripts.Goals as goal

pub returns : goal.returns
returns c = record { accepted = each_is_accepted }
