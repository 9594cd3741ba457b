-- Numbers that are left.
use Rattle.cam_histories.proofs.Counted.{nodes_count_few, asked_may_run}
use Rattle.cam_histories.proofs.steps.numbers_left.Goals as goal

pub returns-clause-few : goal.returns-clause-few
returns-clause-few c = nodes_count_few

pub returns-clause-runs : goal.returns-clause-runs
returns-clause-runs c = asked_may_run
