-- No event is taken in, and no body is in the table.
use Rattle.std.proofs.Common.{refl}
use Rattle.cam_cluster.proofs.WorkersStand.{forgotten}
use Rattle.cam_cluster.proofs.workers.Workers.forget.Goals as goal

pub returns : goal.returns
returns c = record {
  given = λ st is. forgotten _ _ _ refl refl c.new.ensures.empty c.new.ensures.ordered
      c.new-2.ensures.empty c.new-2.ensures.ordered refl c.new-3.ensures is;
}
