-- Before the first line nothing has failed.
use Rattle.std.proofs.Common.{ap}
use Rattle.cam_cluster.specs.declared.works.failing.Failed.{Failed}
use Rattle.cam_cluster.proofs.RunDisks.{all_tell}
use Rattle.cam_cluster.proofs.WholeRuns.{none_taken}
use Rattle.cam_cluster.proofs.cluster.Cluster.over.Goals as goal

pub returns-clause-before_first : goal.returns-clause-before_first
returns-clause-before_first g c script keeps none =
    none_taken script _ _ _ keeps c.new.ensures (
      ap (λ (f : Failed). f.ends) none,
      all_tell _ (λ node. g.met.L.TellingLog.always node.log.log) _,
    )
