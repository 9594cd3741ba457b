-- A body is given to an action.
use Rattle.std.proofs.Common.{refl}
use Rattle.cam_cluster.proofs.BodiesGiven.{one_given}
use Rattle.cam_cluster.proofs.workers.Workers.give.Goals as goal

pub returns : goal.returns
returns c st are bare =
    one_given _ _ _ _ _ c.push_reserved.ensures refl refl refl refl refl bare are
