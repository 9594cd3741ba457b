-- One that is over does not play on.
use Rattle.std.proofs.Common.{refl}
use Rattle.cam_cluster.proofs.WorkersStand.{passed_over}
use Rattle.cam_cluster.proofs.workers.Workers.pass_over.Goals as goal

pub returns : goal.returns
returns c st are over =
    passed_over _ _ _ _ refl refl refl refl refl c.remove.ensures.ordered
    c.remove.ensures.updates.0 over are
