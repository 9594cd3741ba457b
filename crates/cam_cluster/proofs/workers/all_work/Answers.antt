-- Workers that have caught up.
use Rattle.cam_cluster.proofs.AllWork.{all_work}
use Rattle.cam_cluster.proofs.workers.all_work.Goals as goal

pub returns : goal.returns
returns c = all_work
