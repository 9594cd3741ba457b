-- The events that were missing are taken in.
use Rattle.std.proofs.Common.{refl}
use Rattle.cam_cluster.proofs.WorkersStand.{taken_in}
use Rattle.cam_cluster.proofs.workers.Workers.take_in.Goals as goal

pub returns-in-Ok-clause-stay : goal.returns-in-Ok-clause-stay
returns-in-Ok-clause-stay c st is are =
    taken_in _ _ _ _ is refl refl refl refl refl (c.in-Ok.ensures _ are.seen) are
