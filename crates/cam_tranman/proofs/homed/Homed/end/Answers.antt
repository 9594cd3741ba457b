use Rattle.std.proofs.Common.{refl}
use Rattle.cam_tranman.proofs.homed.Homed.end.Goals as goal

pub returns : goal.returns
returns c = record { node = refl; count = refl; tops = refl; action = c.end_in.ensures; call = λ a. refl; children = λ b. refl }
