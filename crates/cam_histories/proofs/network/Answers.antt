use Rattle.cam_histories.proofs.Networks.{next_waits, has_run_letters}
use Rattle.cam_histories.proofs.network.Goals as goal

pub returns-clause-next : goal.returns-clause-next
returns-clause-next c = next_waits

pub returns-clause-letters : goal.returns-clause-letters
returns-clause-letters c = has_run_letters
