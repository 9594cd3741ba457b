-- Actions that are over.
use Rattle.cam_cluster.proofs.Over.{over_goes_not_on, over_stays}
use Rattle.cam_cluster.proofs.PassedOver.{rounds_pass_over}
use Rattle.cam_cluster.proofs.laws.over_for_good.Goals as goal

pub returns-clause-stays : goal.returns-clause-stays
returns-clause-stays c = over_stays

pub returns-clause-rests : goal.returns-clause-rests
returns-clause-rests c = over_goes_not_on

pub returns-clause-rounds : goal.returns-clause-rounds
returns-clause-rounds c = rounds_pass_over
