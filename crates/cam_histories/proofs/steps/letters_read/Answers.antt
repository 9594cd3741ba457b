-- Letters that are read from their bytes.
use Rattle.cam_histories.proofs.ReadBack.{letters_are_read_back, nodes_stand_as_good, logs_keep_as_good}
use Rattle.cam_histories.proofs.steps.letters_read.Goals as goal

pub returns-clause-back : goal.returns-clause-back
returns-clause-back c = letters_are_read_back

pub returns-clause-nodes : goal.returns-clause-nodes
returns-clause-nodes c = nodes_stand_as_good

pub returns-clause-logs : goal.returns-clause-logs
returns-clause-logs c = logs_keep_as_good
